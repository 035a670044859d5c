-- The code's rows: three numbers for each line before the symbols, 0 for what isn't there; and the file that they say. Assumes nothing.
use Rattle.std.specs.Prelude.{ℕ, ◌+◌, cond, List, [], ◌∷◌, eqb, ltb, get_or, take}
use Rattle.below.specs.Table.{table}
use Rattle.circuit.specs.Circuit.{Gate}
use Rattle.reader.specs.Inner.AllLines.{rule_at}
use Rattle.text.specs.Header.{Header}
use Rattle.text.specs.Symbol.{Symbols}
use Rattle.text.specs.TextFile.{TextFile}

-- one of a line's three numbers
unfoldable pub cell : (rows : List (List ℕ)) (j which : ℕ) → ℕ
cell rows j which = get_or (get_or rows j []) which 0

-- as many of them as the line has
unfoldable pub row_at : Header → (rows : List (List ℕ)) → ℕ → List ℕ
row_at h rows j = take (rule_at h j).count (cell rows j 0 ∷ cell rows j 1 ∷ cell rows j 2 ∷ [])

-- one number of each of so many lines
unfoldable pub column_of : (rows : List (List ℕ)) (start count which : ℕ) → List ℕ
column_of rows start count which = table (λ i. cell rows (start + i) which) count

-- what lines behind the inputs use: a next state, the output, a gate's operands
unfoldable pub late_at : Header → (rows : List (List ℕ)) → ℕ → List ℕ
late_at h rows k =
    cond (eqb k h.latches) (cell rows (h.inputs + k) 0 ∷ [])
    (cell rows (h.inputs + k) 1 ∷ cond (ltb k h.latches) [] (cell rows (h.inputs + k) 2 ∷ []))

-- the gates that so many lines from a start on say
unfoldable pub gate_on : (rows : List (List ℕ)) → ℕ → Gate
gate_on rows j = record { own = cell rows j 0; left = cell rows j 1; right = cell rows j 2 }

abbrev pub row_gates : Header → (rows : List (List ℕ)) → List Gate
row_gates h rows = table (λ i. gate_on rows (h.inputs + h.latches + 1 + i)) h.gates

-- the file that rows and symbols say
unfoldable pub rows_file : Header → (rows : List (List ℕ)) → Symbols → TextFile
rows_file h rows behind =
    record {
      largest = h.largest;
      inputs = column_of rows 0 h.inputs 0;
      latches = table (λ i. record { own = cell rows (h.inputs + i) 0; next = cell rows (h.inputs + i) 1 }) h.latches;
      output = cell rows (h.inputs + h.latches) 0;
      gates = row_gates h rows;
      symbols = behind.symbols;
      comment = behind.comment;
    }
