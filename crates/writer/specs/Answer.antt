-- What the answer of a writer of certificates says in 01's words (01, "The certificate"; "The numbers", 10). Assumes nothing.
use Rattle.std.specs.Prelude.{ℕ, Bool, true, false, List, ◌≡◌, length, Result}
use Rattle.circuit.specs.Answer.{outcome_of, fitted, buffer_after}
use Rattle.circuit.specs.Circuit.{Circuit}
use Rattle.circuit.specs.declared.numbers.Refusal.{Refusal}
use Rattle.circuit.specs.Outcome.{Outcome, taken, ◌>>=◌}
use Rattle.game.specs.CircuitGame.{is_realizable}
use Rattle.writer.specs.declared.Certified.{Certified}
use Rattle.writer.specs.declared.Certified.TheVariants.{Realizable, Unrealizable}
use Rattle.writer.specs.Certificate.{certificate_of}

-- the verdict, and how many bytes were written
pub record Verdict : Type 0 where
  pub realizable : Bool
  pub count : ℕ

abbrev pub verdict_of : Certified → Verdict
verdict_of (Realizable n) = record { realizable = true; count = n }
verdict_of (Unrealizable n) = record { realizable = false; count = n }

unfoldable pub certified_outcome : Result Certified Refusal → Outcome Verdict
certified_outcome r = outcome_of r >>= λ v. taken (verdict_of v)

-- the certificate of a file that says this circuit, with replies of a kind, given room for so many bytes; and what is told of it
unfoldable pub certificate_for : (kind : ℕ) → (file : List ℕ) → Outcome Circuit → (room : ℕ) → Outcome (List ℕ)
certificate_for kind file circuit room = circuit >>= λ c. fitted (certificate_of kind file c) room

unfoldable pub verdict_for : (kind : ℕ) → (file : List ℕ) → Outcome Circuit → (room : ℕ) → Outcome Verdict
verdict_for kind file circuit room =
    circuit >>= λ c. fitted (certificate_of kind file c) room >>= λ bytes. taken (record { realizable = is_realizable c; count = length bytes })

-- an answer and a buffer, before and after, say what was written for a file that says this circuit
pub record CertifiedAs (kind : ℕ) (file : List ℕ) (circuit : Outcome Circuit) (before after : List ℕ) (r : Result Certified Refusal) : Type 0 where
  pub answer : certified_outcome r ≡ verdict_for kind file circuit (length before)
  pub bytes : after ≡ buffer_after (certificate_for kind file circuit (length before)) before
