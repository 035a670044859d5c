-- The promise of a writer of certificates decides its answer and every byte of its buffer (01, "What the promises have to decide").
-- Assumes nothing.
use Prim.Native.Nat.{ℕ}
use mathlib.Core.Bool.{true≢false}
use mathlib.Core.List.{List}
use mathlib.Core.Path.{◌≡◌, refl, sym, ap, ◌∙◌}
use Rattle.std.specs.Prelude.{Result, Ok, Err}
use Rattle.circuit.specs.Answer.{outcome_of}
use Rattle.circuit.specs.Circuit.{Circuit}
use Rattle.circuit.specs.Outcome.{Outcome}
use Rattle.circuit.specs.declared.numbers.Refusal.{Refusal}
use Rattle.circuit.proofs.Laws.Answer.{same_answer}
use Rattle.text.proofs.Laws.Outcome.{moved}
use Rattle.file.specs.CircuitIn.{circuit_in}
use Rattle.writer.specs.declared.Certified.{Certified}
use Rattle.writer.specs.declared.Certified.TheVariants.{Realizable, Unrealizable}
use Rattle.writer.specs.Answer.{verdict_of, certified_outcome, certificate_for, CertifiedAs}
use Rattle.writer.specs.Certificate.{certified}

same_verdict : (a b : Certified) → verdict_of a ≡ verdict_of b → a ≡ b
same_verdict (Realizable n) (Realizable m) e = λ x. Realizable (e x).count
same_verdict (Realizable n) (Unrealizable m) e = absurd (true≢false (λ x. (e x).realizable))
same_verdict (Unrealizable n) (Realizable m) e = absurd (true≢false (sym (λ x. (e x).realizable)))
same_verdict (Unrealizable n) (Unrealizable m) e = λ x. Unrealizable (e x).count

same_certified : (r s : Result Certified Refusal) → certified_outcome r ≡ certified_outcome s → r ≡ s
unfolding certified_outcome outcome_of
same_certified (Ok a) (Ok b) e = ap {B = Result Certified Refusal} Ok (same_verdict a b cc)
same_certified (Ok a) (Err s) e = cc
same_certified (Err r) (Ok b) e = cc
same_certified (Err r) (Err s) e = same_answer {A = Certified} (Err r) (Err s) (moved _ _ _ _ e)

pub certified_decided :
    (kind : ℕ) (file : List ℕ) (circuit : Outcome Circuit) (before l m : List ℕ) (r s : Result Certified Refusal)
    → CertifiedAs kind file circuit before l r → CertifiedAs kind file circuit before m s → (r ≡ s) × (l ≡ m)
certified_decided kind file circuit before l m r s v w = (same_certified r s (v.answer ∙ sym w.answer), v.bytes ∙ sym w.bytes)

-- for the circuit that the file itself says, these are the bytes of the definition
pub certificate_of_file : (kind : ℕ) (file : List ℕ) (room : ℕ) → certificate_for kind file (circuit_in file) room ≡ certified kind file room
unfolding certificate_for certified
certificate_of_file kind file room = refl
