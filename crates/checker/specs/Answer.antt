-- What the checker's answer says in 01's words (01, "The certificate": the starts of region and replies; "The numbers"; 02, T-07: kind
-- and C, without which a packed table can't be read). Assumes nothing.
use Rattle.std.specs.Prelude.{ℕ, ◌+◌, List, length, Result}
use Rattle.circuit.specs.Answer.{outcome_of}
use Rattle.circuit.specs.Circuit.{Circuit, latch_count, uncontrollable_count, controllable_count}
use Rattle.circuit.specs.Outcome.{Outcome, taken, ◌>>=◌}
use Rattle.circuit.specs.declared.numbers.Refusal.{Refusal}
use Rattle.file.specs.CircuitIn.{circuit_in}
use Rattle.records.specs.Kinds.{reply_kind_number}
use Rattle.records.specs.Record.{head_length}
use Rattle.records.specs.Tables.{Tables, replies, attacks}
use Rattle.checker.specs.declared.Passed.{Passed}
use Rattle.checker.specs.declared.Passed.TheVariants.{Replies, Attacks}
use Rattle.checker.specs.Check.{check_of}

-- where the tables of a certificate start, and how its numbers are read
pub data Starts : Type 0 where
  of_replies : (region table kind L U C : ℕ) → Starts
  of_attacks : (table L U : ℕ) → Starts

unfoldable pub starts_of : Circuit → Tables → Starts
starts_of c (replies circuit region kind table) =
    of_replies (head_length + length circuit + head_length)
    (head_length + length circuit + head_length + length region + head_length)
    kind
    (latch_count c)
    (uncontrollable_count c)
    (controllable_count c)
starts_of c (attacks circuit table) =
    of_attacks (head_length + length circuit + head_length) (latch_count c) (uncontrollable_count c)

-- those that a pass answers
unfoldable pub starts_in : Passed → Starts
starts_in (Replies region table kind counts) = of_replies region table (reply_kind_number kind) counts.latches counts.readings counts.controls
starts_in (Attacks table L U) = of_attacks table L U

unfoldable pub checked_outcome : Result Passed Refusal → Outcome Starts
checked_outcome r = outcome_of r >>= λ p. taken (starts_in p)

-- what a check answers for a file and a certificate
unfoldable pub answer_of : (file certificate : List ℕ) → Outcome Starts
answer_of file certificate = circuit_in file >>= λ c. check_of file certificate >>= λ t. taken (starts_of c t)
