-- Refusals of a reader and of a writer that goes by a file are exact: the file's own numbers, and 10. Assumes nothing.
use Prim.Native.Nat.{ℕ, ◌<◌}
use native.Mathlib.Decide.{dec_lt}
use native.Mathlib.Omega.{arith}
use mathlib.Core.List.{List}
use mathlib.Core.Logic.{◌↔◌}
use mathlib.Core.Path.{◌≡◌, refl, sym, ap, ◌∙◌}
use lib.ListN.{length}
use Rattle.std.specs.Prelude.{Result}
use Rattle.circuit.specs.Answer.{ReadAs, outcome_of, no_room, fitted}
use Rattle.circuit.specs.Circuit.{Circuit}
use Rattle.circuit.specs.Stored.{stored}
use Rattle.circuit.specs.declared.Circuit.{Circuit as Value}
use Rattle.circuit.specs.declared.numbers.Refusal.{Refusal}
use Rattle.circuit.specs.Outcome.{Outcome, taken, refused, ◌>>=◌}
use Rattle.circuit.proofs.Laws.Answer.{fitted_taken, fitted_refused}
use Rattle.text.proofs.Laws.Outcome.{taken_is-not_refused, moved}
use Rattle.file.specs.CircuitIn.{circuit_in}
use Rattle.file.specs.WriterRow.{WriterRow, of_file, ten}

-- what is told of an outcome is refused exactly where the outcome is
pub told_refused :
    {A B : Type 0} (o : Outcome A) (f : A → B) (number place : ℕ) → ((o >>= λ a. taken (f a)) ≡ refused number place) ↔ (o ≡ refused number place)
told_refused (taken a) f number place = (λ e. absurd (taken_is-not_refused number place (f a) e), λ e. absurd (taken_is-not_refused number place a e))
told_refused (refused m q) f number place = (λ e. moved m q number place e, λ e. moved m q number place e)

pub reader_refused_exactly :
    (file : List ℕ) (r : Result Value Refusal) (number place : ℕ) → ReadAs (circuit_in file) r
    → (outcome_of r ≡ refused number place) ↔ (circuit_in file ≡ refused number place)
reader_refused_exactly file r number place w =
    let both = told_refused (circuit_in file) stored number place in
    (λ e. both.0 (sym w ∙ e), λ e. w ∙ both.1 e)

module _ (file : List ℕ) (bytes : Circuit → List ℕ) (room number place : ℕ) where
  row_of : (o : Outcome Circuit) → circuit_in file ≡ o → (o >>= λ c. fitted (bytes c) room) ≡ refused number place → WriterRow file bytes room number place
  row_of (refused m q) read e = of_file (read ∙ moved m q number place e)
  row_of (taken c) read e =
      elim (dec_lt room (length (bytes c))) [
        | yes h ↦ short h (sym (fitted_refused (bytes c) room h) ∙ e)
        | no h ↦ absurd (taken_is-not_refused number place (bytes c) (sym (fitted_taken (bytes c) room (omega arith)) ∙ e))
      ]
    where
      short : room < length (bytes c) → ◌≡◌ {A = Outcome (List ℕ)} (refused no_room 0) (refused number place) → WriterRow file bytes room number place
      short h f = let n : number ≡ no_room = cc in let p : place ≡ 0 = cc in ten n p c read h

  of_row : WriterRow file bytes room number place → (circuit_in file >>= λ c. fitted (bytes c) room) ≡ refused number place
  of_row (of_file e) = ap (λ (o : Outcome Circuit). o >>= λ c. fitted (bytes c) room) e
  of_row (ten n p c read h) = rw (n, p) (ap (λ (o : Outcome Circuit). o >>= λ d. fitted (bytes d) room) read ∙ fitted_refused (bytes c) room h)

  pub no_room_exactly : ((circuit_in file >>= λ c. fitted (bytes c) room) ≡ refused number place) ↔ WriterRow file bytes room number place
  no_room_exactly = (λ e. row_of (circuit_in file) refl e, of_row)
