-- What is read behind the gates, by the rows of all lines. Assumes nothing.
use Prim.Native.Nat.{ℕ, zero, suc, ◌+◌, ◌<◌, ◌≤◌}
use native.Mathlib.Nat.{add-zero, add-suc}
use native.Mathlib.Omega.{arith}
use mathlib.Core.List.{List, [], ◌∷◌, ◌++◌, map, append-nil, append_assoc}
use mathlib.Core.Path.{◌≡◌, sym, ap, ◌∙◌}
use lib.ListN.{length, get_or, take, drop, length-take, length-drop}
use lib.Seq.{ext_get_or, get_or-take, get_or-drop}
use borrow.Author.Tests.{lt-ltb, le-ltb, eq-eqb, ne_eqb}
use Rattle.below.specs.Table.{table}
use Rattle.below.proofs.Laws.Table.{length_table, get_or_table, map_table, table_same}
use Rattle.circuit.specs.Outcome.{taken, ◌>>=◌, ◌>>◌}
use Rattle.reader.specs.Inner.AllLines.{line_count}
use Rattle.reader.specs.Inner.Rows.{cell, row_at, column_of, late_at, gate_on, row_gates, rows_file}
use Rattle.reader.proofs.Laws.Sections.{part_of, finished, input_rules, latch_rules, output_rules, gate_rules}
use Rattle.text.specs.Header.{Header}
use Rattle.text.specs.Kind.{used_by, a_latch, the_output, a_gate, latch_of, gate_of}
use Rattle.text.specs.Rules.{input_rule, latch_rule, output_rule, gate_rule}
use Rattle.text.specs.Section.{Body, used}
use Rattle.text.specs.Stages.{late_of, circled}
use Rattle.text.specs.Symbol.{Symbols, symbol_lines}
use Rattle.text.proofs.Laws.Stages.{file_of}

-- a part of a table is a table
part_table : (f : ℕ → List ℕ) (n start count : ℕ) → start + count ≤ n → take count (drop start (table f n)) ≡ table (λ i. f (start + i)) count
part_table f n start count h =
    ext_get_or [] (take count (drop start (table f n))) (table (λ i. f (start + i)) count) (long ∙ sym (length_table (λ i. f (start + i)) count))
    (λ i l.
    let low : i < count = omega (arith, long) in
    get_or-take count (drop start (table f n)) i [] low ∙ get_or-drop start (table f n) i [] ∙ get_or_table f n (start + i) [] (omega arith)
    ∙ sym (get_or_table (λ j. f (start + j)) count i [] low))
  where
    long : length (take count (drop start (table f n))) ≡ count
    long = length-take count (drop start (table f n)) ∙ omega (arith, length-drop start (table f n), length_table f n)

-- a table and the one behind it
table_join : {A : Type 0} (f : ℕ → A) (n m : ℕ) → table f n ++ table (λ i. f (n + i)) m ≡ table f (n + m)
unfolding table
table_join f n zero = append-nil (table f n) ∙ ap (table f) (sym (add-zero n))
table_join f n (suc m) =
    sym (append_assoc (table f n) (table (λ i. f (n + i)) m) (f (n + m) ∷ []))
    ∙ ap (λ l. l ++ (f (n + m) ∷ [])) (table_join f n m)
    ∙ ap (table f) (sym (add-suc n m))

module _ (h : Header) (rows : List (List ℕ)) (defined : List ℕ) (rest : List (List ℕ)) where
  abbrev all : Body
  all = record { rows = table (row_at h rows) (line_count h); defined = defined; rest = rest }

  abbrev first : ℕ
  first = h.inputs + h.latches + 1

  -- the rows of each section
  input_rows : (part_of 0 h.inputs all).rows ≡ table (λ i. cell rows (0 + i) 0 ∷ []) h.inputs
  unfolding row_at input_rule
  input_rows = part_table (row_at h rows) (line_count h) 0 h.inputs (omega arith) ∙ table_same _ _ h.inputs (λ i l. rw (input_rules h i l))

  latch_rows : (part_of h.inputs h.latches all).rows ≡ table (λ i. cell rows (h.inputs + i) 0 ∷ cell rows (h.inputs + i) 1 ∷ []) h.latches
  unfolding row_at latch_rule
  latch_rows = part_table (row_at h rows) (line_count h) h.inputs h.latches (omega arith) ∙ table_same _ _ h.latches (λ i l. rw (latch_rules h i l))

  output_rows : (part_of (h.inputs + h.latches) 1 all).rows ≡ (cell rows (h.inputs + h.latches) 0 ∷ []) ∷ []
  unfolding row_at output_rule table
  output_rows = part_table (row_at h rows) (line_count h) (h.inputs + h.latches) 1 (omega arith)
      ∙ ap (λ (r : List ℕ). r ∷ []) (rw (output_rules h 0 (omega arith)) (ap (λ (j : ℕ). cell rows j 0 ∷ []) (omega arith)))

  gate_rows : (part_of first h.gates all).rows ≡ table (λ i. cell rows (first + i) 0 ∷ cell rows (first + i) 1 ∷ cell rows (first + i) 2 ∷ []) h.gates
  unfolding row_at gate_rule
  gate_rows = part_table (row_at h rows) (line_count h) first h.gates (omega arith) ∙ table_same _ _ h.gates (λ i l. rw (gate_rules h i l))

  -- what is looked at behind all gate lines
  late_latches : map (used_by a_latch) (part_of h.inputs h.latches all).rows ≡ table (late_at h rows) h.latches
  unfolding late_at
  late_latches =
      ap (map (used_by a_latch)) latch_rows
      ∙ map_table (used_by a_latch) (λ i. cell rows (h.inputs + i) 0 ∷ cell rows (h.inputs + i) 1 ∷ []) h.latches
      ∙ table_same (λ i. cell rows (h.inputs + i) 1 ∷ []) (late_at h rows) h.latches
      (λ i l. rw (ne_eqb i h.latches (λ e. omega arith), lt-ltb i h.latches l))

  late_output : map (used_by the_output) (part_of (h.inputs + h.latches) 1 all).rows ≡ table (λ i. late_at h rows (h.latches + i)) 1
  unfolding late_at table
  late_output =
      ap (map (used_by the_output)) output_rows
      ∙ ap (λ (x : List ℕ). x ∷ []) (rw (eq-eqb (h.latches + 0) h.latches (add-zero h.latches)) (ap (λ (j : ℕ). cell rows j 0 ∷ []) place))
    where
      place : h.inputs + h.latches ≡ h.inputs + (h.latches + 0)
      place = omega arith

  late_gates : map (used_by a_gate) (part_of first h.gates all).rows ≡ table (λ i. late_at h rows (h.latches + 1 + i)) h.gates
  unfolding late_at
  late_gates =
      ap (map (used_by a_gate)) gate_rows
      ∙ map_table (used_by a_gate) (λ i. cell rows (first + i) 0 ∷ cell rows (first + i) 1 ∷ cell rows (first + i) 2 ∷ []) h.gates
      ∙ table_same (λ i. cell rows (first + i) 1 ∷ cell rows (first + i) 2 ∷ []) (λ i. late_at h rows (h.latches + 1 + i)) h.gates
      (λ i l. rw (ne_eqb (h.latches + 1 + i) h.latches (λ e. omega arith), le-ltb (h.latches + 1 + i) h.latches (omega arith))
      (ap (λ (j : ℕ). cell rows j 1 ∷ cell rows j 2 ∷ []) (place i)))
    where
      place : (i : ℕ) → first + i ≡ h.inputs + (h.latches + 1 + i)
      place i = omega arith

  lates : late_of (part_of h.inputs h.latches all) (part_of (h.inputs + h.latches) 1 all) (part_of first h.gates all)
      ≡ table (late_at h rows) (h.latches + 1 + h.gates)
  lates =
      (λ x. late_latches x ++ (late_output x ++ late_gates x))
      ∙ sym (append_assoc (table (late_at h rows) h.latches) (table (λ i. late_at h rows (h.latches + i)) 1)
      (table (λ i. late_at h rows (h.latches + 1 + i)) h.gates))
      ∙ ap (λ (l : List (List ℕ)). l ++ table (λ i. late_at h rows (h.latches + 1 + i)) h.gates) (table_join (late_at h rows) h.latches 1)
      ∙ table_join (late_at h rows) (h.latches + 1) h.gates

  -- the gates
  gates_are : map gate_of (part_of first h.gates all).rows ≡ row_gates h rows
  unfolding gate_of gate_on
  gates_are = ap (map gate_of) gate_rows
      ∙ map_table gate_of (λ i. cell rows (first + i) 0 ∷ cell rows (first + i) 1 ∷ cell rows (first + i) 2 ∷ []) h.gates

  -- the file
  file_is : (behind : Symbols) → file_of h (part_of 0 h.inputs all) (part_of h.inputs h.latches all) (part_of (h.inputs + h.latches) 1 all)
      (part_of first h.gates all) behind ≡ rows_file h rows behind
  unfolding rows_file column_of latch_of
  file_is behind =
      λ x.
      record {
        largest = h.largest;
        inputs = (ap (map (λ fs. get_or fs 0 0)) input_rows ∙ map_table (λ fs. get_or fs 0 0) (λ i. cell rows (0 + i) 0 ∷ []) h.inputs) x;
        latches = (ap (map latch_of) latch_rows ∙ map_table latch_of (λ i. cell rows (h.inputs + i) 0 ∷ cell rows (h.inputs + i) 1 ∷ []) h.latches) x;
        output = get_or (get_or (output_rows x) 0 []) 0 0;
        gates = gates_are x;
        symbols = behind.symbols;
        comment = behind.comment;
      }

  pub finished_rows : finished h all ≡ (used defined (2 + h.inputs) (table (late_at h rows) (h.latches + 1 + h.gates)) >>
      (circled (3 + h.inputs + h.latches) (row_gates h rows) >>
      (symbol_lines h (3 + h.inputs + h.latches + h.gates) [] rest >>= λ behind. taken (rows_file h rows behind))))
  finished_rows =
      λ x.
      used defined (2 + h.inputs) (lates x)
      >> (circled (3 + h.inputs + h.latches) (gates_are x)
      >> (symbol_lines h (3 + h.inputs + h.latches + h.gates) [] rest >>= λ behind. taken (file_is behind x)))
