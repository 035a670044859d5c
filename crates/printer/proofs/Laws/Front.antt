-- Reading, then the print of the circuit: what `print` writes. Assumes nothing.
use Prim.Native.Nat.{ℕ}
use mathlib.Core.List.{List}
use mathlib.Core.Path.{◌≡◌, refl, sym, ap, ◌∙◌, subst}
use lib.ListN.{length}
use Rattle.std.specs.Prelude.{Result, Ok, Err}
use Rattle.circuit.specs.Answer.{ReadAs, WrittenAs, outcome_of, fitted, count_of, buffer_after}
use Rattle.circuit.specs.Circuit.{Circuit}
use Rattle.circuit.specs.Fault.{number_of}
use Rattle.circuit.specs.declared.Circuit.{Circuit as Value}
use Rattle.circuit.specs.declared.numbers.Refusal.{Refusal}
use Rattle.circuit.specs.Outcome.{Outcome, refused, ◌>>=◌}
use Rattle.circuit.specs.Stored.{meant}
use Rattle.file.specs.CircuitIn.{circuit_in}
use Rattle.file.proofs.Laws.Read.{Means, taken_means, refused_means}
use Rattle.text.specs.Printed.{printed, printed_into}
use Rattle.printer.specs.FilePrinted.{file_printed}

module _ (file : List ℕ) (r : Result Value Refusal) (given : ReadAs (circuit_in file) r) where
  then : ℕ → Outcome Circuit → Outcome (List ℕ)
  then room o = o >>= λ c. printed_into c room

  pub front_printed :
      (v : Value) (c : Circuit) (before after : List ℕ) (w : Result ℕ Refusal) → r ≡ Ok v → c ≡ meant v
      → WrittenAs (fitted (printed c) (length before)) before after w → WrittenAs (file_printed file (length before)) before after w
  unfolding file_printed then printed_into
  front_printed v c before after w e f p =
      let m : Means file v = taken_means file r given v e in
      subst (λ (o : Outcome (List ℕ)). WrittenAs o before after w)
      (ap (λ (c : Circuit). printed_into c (length before)) (f ∙ m.meant_is) ∙ sym (ap (then (length before)) m.read))
      p

  pub front_refused : (buffer : List ℕ) (x : Refusal) → r ≡ Err x → WrittenAs (file_printed file (length buffer)) buffer buffer (Err x)
  unfolding file_printed then outcome_of count_of buffer_after
  front_refused buffer x e =
      let q : file_printed file (length buffer) ≡ refused (number_of x.fault) x.place = ap (then (length buffer)) (refused_means file r given x e) in
      subst (λ (o : Outcome (List ℕ)). WrittenAs o buffer buffer (Err x)) (sym q) (record { answer = refl; bytes = refl })
