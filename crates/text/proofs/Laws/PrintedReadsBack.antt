-- Printing is read back (01, "The numbers", last paragraph): what is printed of a circuit that was read is read as that circuit, and is at most
-- 15,157 bytes long. Assumes nothing.
use Prim.Native.Nat.{ℕ, ◌<◌, ◌≤◌}
use native.Mathlib.Omega.{arith}
use native.Mathlib.Nat.{zero-add}
use mathlib.Core.Bool.{false}
use mathlib.Core.List.{List, [], ◌∷◌, map}
use mathlib.Core.Option.{none}
use mathlib.Core.Path.{◌≡◌, refl, sym, ap, ◌∙◌, subst}
use lib.ListN.{length, get_or, length-map, get_or-map}
use lib.Seq.{ext_get_or}
use Rattle.below.proofs.Laws.Table.{length_table, get_or_table, table_same}
use Rattle.circuit.specs.Circuit.{Circuit, Input, too_many}
use Rattle.circuit.specs.Limits.{base}
use Rattle.circuit.specs.Outcome.{taken}
use Rattle.text.specs.InList.{All}
use Rattle.text.specs.Number.{is_digit, run, decimal}
use Rattle.text.specs.Printed.{printed_symbols, printed_file, printed}
use Rattle.text.specs.Read.{file_read, circuit_read}
use Rattle.text.specs.Symbol.{Symbol, prefix, is_name_byte, is_controllable}
use Rattle.text.specs.TextFile.{TextFile, circuit_of}
use Rattle.text.specs.WellFormed.{WellFormed, ReachesItself, of_input, SymbolLine}
use Rattle.text.specs.Written.{text_of}
use Rattle.text.proofs.Laws.Complete.{complete}
use Rattle.text.proofs.Laws.Exact.{taken_circuit}
use Rattle.text.proofs.Laws.GateOrder.{gate_lines_back}
use Rattle.text.proofs.Laws.Lists.{all_append, all_weaker}
use Rattle.text.proofs.Laws.Number.{decimal_each, decimal-length, digit_range}
use Rattle.text.proofs.Laws.Outcome.{taken_is}
use Rattle.text.proofs.Laws.PrintedSymbols.{PrintedAt, printed_at, printed_apart, printed-count, printed_controllable}
use Rattle.text.proofs.Laws.Run.{Each, run_each}
use Rattle.text.proofs.Laws.Size.{Printable, text_length}
use Rattle.text.proofs.Laws.Sound.{sound}
use Rattle.text.proofs.Laws.SymbolRule.{bytes_name}

-- the name of a printed symbol is one
prefix_bytes : All (λ b. (32 ≤ b) × (b ≤ 126)) prefix
unfolding run is_name_byte
prefix_bytes = bytes_name prefix (run_each is_name_byte prefix)

digit_bytes : (t : List ℕ) → Each is_digit t → All (λ b. (32 ≤ b) × (b ≤ 126)) t
digit_bytes [] e = tt
digit_bytes (b ∷ t) e = let (low, high) = digit_range b e.0 in ((omega arith, omega arith), digit_bytes t e.1)

printed_line : (f : TextFile) (s : Symbol) → length f.inputs ≤ base.inputs → PrintedAt 0 (length f.inputs) s → SymbolLine f s
printed_line f s h a =
    record {
      placed = of_input a.letter a.most;
      some = rw a.name (omega arith);
      most = rw a.name (omega (arith, decimal-length s.position 1 (omega (arith, a.most))));
      bytes = rw a.name (all_append (λ b. (32 ≤ b) × (b ≤ 126)) prefix (decimal s.position) prefix_bytes
          (digit_bytes (decimal s.position) (decimal_each s.position)));
    }

abbrev no_input : Input
no_input = record { own = 0; controllable = false }

-- the inputs of a file's circuit, and their literals
input_count_lem : (f : TextFile) → length (circuit_of f).inputs ≡ length f.inputs
unfolding circuit_of
input_count_lem f = length_table (λ i. record { own = get_or f.inputs i 0; controllable = is_controllable f.symbols i }) (length f.inputs)

inputs_back : (f : TextFile) → map (λ (i : Input). i.own) (circuit_of f).inputs ≡ f.inputs
unfolding circuit_of
inputs_back f = ext_get_or 0 (map (λ (i : Input). i.own) (circuit_of f).inputs) f.inputs
    (length-map (circuit_of f).inputs (λ (i : Input). i.own) ∙ input_count_lem f)
    (λ i h. get_or-map (λ (i : Input). i.own) (circuit_of f).inputs i no_input
    ∙ ap (λ (j : Input). j.own) (get_or_table (λ j. record { own = get_or f.inputs j 0; controllable = is_controllable f.symbols j })
    (length f.inputs) i no_input (omega (arith, h, length-map (circuit_of f).inputs (λ (j : Input). j.own), input_count_lem f))))

-- the file that is printed
abbrev printed_of : TextFile → TextFile
printed_of f = record {
  largest = f.largest;
  inputs = f.inputs;
  latches = f.latches;
  output = f.output;
  gates = f.gates;
  symbols =
      printed_symbols 0 (circuit_of f).inputs;
  comment = none;
}

printed-is : (f : TextFile) → ((i : ℕ) → ReachesItself f.gates i → ⊥) → printed_file (circuit_of f) ≡ printed_of f
unfolding printed_file circuit_of
printed-is f never = λ x. record {
  largest = f.largest;
  inputs = inputs_back f x;
  latches = f.latches;
  output = f.output;
  gates = gate_lines_back f never x;
  symbols =
      printed_symbols 0 (circuit_of f).inputs;
  comment = none;
}

printed_symbols_lem : (f : TextFile) → All (PrintedAt 0 (length f.inputs)) (printed_symbols 0 (circuit_of f).inputs)
printed_symbols_lem f = printed_at 0 (length f.inputs) (circuit_of f).inputs (omega (arith, input_count_lem f))

printable : (f : TextFile) → WellFormed base f → Printable (printed_of f)
printable f w =
    record {
      largest = w.largest;
      input_count = w.input_count;
      latch_count = w.latch_count;
      room = w.room;
      inputs = w.inputs;
      latches = w.latches;
      output = w.output;
      gates = w.gates;
      symbols = printed_symbols_lem f;
      symbol_count = omega (arith, printed-count 0 (circuit_of f).inputs, input_count_lem f);
      comment = refl;
    }

printed_form : (f : TextFile) → WellFormed base f → WellFormed base (printed_of f)
printed_form f w =
    record {
      file = omega (arith, text_length (printed_of f) (printable f w));
      largest = w.largest;
      input_count = w.input_count;
      latch_count = w.latch_count;
      digits = w.digits;
      room = w.room;
      inputs = w.inputs;
      latches = w.latches;
      output = w.output;
      gates = w.gates;
      once = w.once;
      operands = w.operands;
      no_circle = w.no_circle;
      nexts = w.nexts;
      error = w.error;
      symbols = all_weaker (PrintedAt 0 (length f.inputs)) (SymbolLine (printed_of f)) (λ s a. printed_line (printed_of f) s w.input_count a)
          (printed_symbols 0 (circuit_of f).inputs) (printed_symbols_lem f);
      apart = printed_apart 0 (circuit_of f).inputs;
    }

-- it means the same circuit
same_controllable : (f : TextFile) (i : ℕ) → i < length f.inputs → is_controllable (printed_symbols 0 (circuit_of f).inputs) i ≡ is_controllable f.symbols i
unfolding circuit_of
same_controllable f i h =
    ap (is_controllable (printed_symbols 0 (circuit_of f).inputs)) (sym (zero-add i))
    ∙ printed_controllable no_input 0 (circuit_of f).inputs i (omega (arith, h, input_count_lem f))
    ∙ ap (λ (j : Input). j.controllable) (get_or_table (λ j. record { own = get_or f.inputs j 0; controllable = is_controllable f.symbols j })
    (length f.inputs) i no_input h)

same_circuit : (f : TextFile) → circuit_of (printed_of f) ≡ circuit_of f
unfolding circuit_of
same_circuit f =
    let inputs : (circuit_of (printed_of f)).inputs ≡ (circuit_of f).inputs =
    table_same {A = Input} (λ i. record { own = get_or f.inputs i 0; controllable = is_controllable (printed_symbols 0 (circuit_of f).inputs) i })
    (λ i. record { own = get_or f.inputs i 0; controllable = is_controllable f.symbols i }) (length f.inputs)
    (λ i h x. record { own = get_or f.inputs i 0; controllable = same_controllable f i h x }) in
    λ x. record {
      largest = f.largest;
      inputs = inputs x;
      latches = f.latches;
      output = f.output;
      gates = (circuit_of f).gates;
      lines = (circuit_of f).lines;
    }

-- the file that a circuit was read from
record Source (c : Circuit) : Type 0 where
  file : TextFile
  form : WellFormed base file
  few : too_many base (circuit_of file) ≡ false
  means : circuit_of file ≡ c

source : (bytes : List ℕ) (c : Circuit) → circuit_read base bytes ≡ taken c → Source c
source bytes c e =
    let (f, t, few, means) = (taken_circuit base bytes c).0 e in
    record { file = f; form = (sound base bytes f refl (omega arith) t).1; few = few; means = means }

printed_text : (f : TextFile) → WellFormed base f → printed (circuit_of f) ≡ text_of (printed_of f)
unfolding printed
printed_text f w = ap text_of (printed-is f w.no_circle)

-- what is printed of a circuit that was read is read as that circuit
pub printed_reads_back : (bytes : List ℕ) (c : Circuit) → circuit_read base bytes ≡ taken c → circuit_read base (printed c) ≡ taken c
printed_reads_back bytes c e =
    let s : Source c = source bytes c e in
    let f : TextFile = s.file in
    let read : file_read base (printed (circuit_of f)) ≡ taken (printed_of f) =
    ap (file_read base) (printed_text f s.form) ∙ complete base (printed_of f) (printed_form f s.form) refl in
    let back : circuit_read base (printed (circuit_of f)) ≡ taken (circuit_of f) =
    (taken_circuit base (printed (circuit_of f)) (circuit_of f)).1 (printed_of f, read, ap (too_many base) (same_circuit f) ∙ s.few, same_circuit f) in
    subst (λ (d : Circuit). circuit_read base (printed d) ≡ taken d) s.means back

-- so it is printed again as the same bytes
pub printed_again : (bytes : List ℕ) (c d : Circuit) → circuit_read base bytes ≡ taken c → circuit_read base (printed c) ≡ taken d → printed d ≡ printed c
printed_again bytes c d e r = ap printed (taken_is d c (sym r ∙ printed_reads_back bytes c e))

-- and it fits into a file
pub printed-length : (bytes : List ℕ) (c : Circuit) → circuit_read base bytes ≡ taken c → length (printed c) ≤ 15157
printed-length bytes c e =
    let s : Source c = source bytes c e in
    let f : TextFile = s.file in
    let short : length (printed (circuit_of f)) ≤ 15157 = subst (λ (t : List ℕ). length t ≤ 15157) (sym (printed_text f s.form))
    (text_length (printed_of f) (printable f s.form)) in
    subst (λ (d : Circuit). length (printed d) ≤ 15157) s.means short
