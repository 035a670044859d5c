-- What the answers of the code say in 01's words (01, "The numbers"): number and place of a refusal, the circuit that was read, the count of
-- the bytes that a writer wrote. Assumes nothing.
use Rattle.std.specs.Prelude.{ℕ, List, ◌++◌, ◌≡◌, ltb, length, drop, Result, Ok, Err}
use Rattle.circuit.specs.declared.Circuit.{Circuit as Value}
use Rattle.circuit.specs.declared.numbers.Refusal.{Refusal}
use Rattle.circuit.specs.Circuit.{Circuit}
use Rattle.circuit.specs.Fault.{number_of}
use Rattle.circuit.specs.Outcome.{Outcome, taken, refused, ◌>>=◌, ◌>>◌, refuse_if}
use Rattle.circuit.specs.Stored.{stored}

-- an answer: what was taken, or number and place
unfoldable pub outcome_of : {A : Type 0} → Result A Refusal → Outcome A
outcome_of (Ok a) = taken a
outcome_of (Err r) = refused (number_of r.fault) r.place

-- a reader's answer says how reading came out
abbrev pub ReadAs : Outcome Circuit → Result Value Refusal → Type 0
ReadAs outcome r = outcome_of r ≡ (outcome >>= λ c. taken (stored c))

-- 10: lent buffer shorter than what must be written
abbrev pub no_room : ℕ
no_room = 10

-- what is written where these bytes must be, given room for so many
unfoldable pub fitted : List ℕ → ℕ → Outcome (List ℕ)
fitted bytes room = refuse_if (ltb room (length bytes)) no_room 0 >> taken bytes

-- the count of what is written
unfoldable pub count_of : Outcome (List ℕ) → Outcome ℕ
count_of o = o >>= λ bytes. taken (length bytes)

-- a lent buffer afterwards: a success writes its bytes at the front and the rest stays; a refusal writes nothing
unfoldable pub buffer_after : Outcome (List ℕ) → List ℕ → List ℕ
buffer_after (taken bytes) buffer = bytes ++ drop (length bytes) buffer
buffer_after (refused number place) buffer = buffer

-- a writer's answer and its buffer, before and after, say what was written
pub record WrittenAs (outcome : Outcome (List ℕ)) (before after : List ℕ) (r : Result ℕ Refusal) : Type 0 where
  pub answer : outcome_of r ≡ count_of outcome
  pub bytes : after ≡ buffer_after outcome before
