-- What a reader's answer says of the file: its circuit is the one that the file means, or the refusal is the file's. Assumes nothing.
use Prim.Native.Nat.{ℕ}
use mathlib.Core.List.{List}
use mathlib.Core.Path.{◌≡◌, refl, sym, ap, ◌∙◌}
use Rattle.std.specs.Prelude.{Result, Ok, Err}
use Rattle.circuit.specs.Answer.{ReadAs, outcome_of}
use Rattle.circuit.specs.Circuit.{Circuit}
use Rattle.circuit.specs.Fault.{number_of}
use Rattle.circuit.specs.declared.Circuit.{Circuit as Value}
use Rattle.circuit.specs.declared.numbers.Refusal.{Refusal}
use Rattle.circuit.specs.Outcome.{Outcome, taken, refused}
use Rattle.circuit.specs.Stored.{meant, stored, solvable}
use Rattle.file.specs.CircuitIn.{circuit_in}
use Rattle.text.proofs.Laws.Fits.{read_meant, read_solvable}
use Rattle.text.proofs.Laws.Outcome.{refused_is-not_taken, taken_is-not_refused, taken_is, moved}

-- the circuit that a file means, and that a value stands for
pub record Means (file : List ℕ) (v : Value) : Type 0 where
  pub circuit : Circuit
  pub read : circuit_in file ≡ taken circuit
  pub meant_is : meant v ≡ circuit
  pub solvable-is : solvable (meant v) ≡ circuit

module _ (file : List ℕ) (r : Result Value Refusal) (given : ReadAs (circuit_in file) r) where
  pub taken_means : (v : Value) → r ≡ Ok v → Means file v
  unfolding circuit_in outcome_of
  taken_means v e = by (circuit_in file) refl given
    where
      by : (o : Outcome Circuit) → circuit_in file ≡ o → ReadAs o r → Means file v
      by (taken c) q a =
          let same : v ≡ stored c = taken_is v (stored c) (sym (ap outcome_of e) ∙ a) in
          let m : meant v ≡ c = ap meant same ∙ read_meant file c q in
          record { circuit = c; read = q; meant_is = m; solvable-is = ap solvable m ∙ read_solvable file c q }
      by (refused number place) q a = absurd (taken_is-not_refused number place v (sym (ap outcome_of e) ∙ a))

  pub refused_means : (x : Refusal) → r ≡ Err x → circuit_in file ≡ refused (number_of x.fault) x.place
  unfolding circuit_in outcome_of
  refused_means x e = by (circuit_in file) refl given
    where
      by : (o : Outcome Circuit) → circuit_in file ≡ o → ReadAs o r → circuit_in file ≡ refused (number_of x.fault) x.place
      by (taken c) q a = absurd (refused_is-not_taken (number_of x.fault) x.place (stored c) (sym (ap outcome_of e) ∙ a))
      by (refused number place) q a =
          q ∙ moved number place (number_of x.fault) x.place (sym a ∙ ap outcome_of e)
