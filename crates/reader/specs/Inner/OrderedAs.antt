-- What the code's answer says of the gates that rows say (02, T-01): the order of their evaluation, or the lowest that reaches itself. Assumes
-- nothing.
use Rattle.std.specs.Prelude.{ℕ, ◌+◌, List, ◌≡◌, take, Result, Ok, Err}
use Rattle.circuit.specs.Fault.{number_of}
use Rattle.circuit.specs.Outcome.{refused}
use Rattle.circuit.specs.declared.numbers.Refusal.{Refusal}
use Rattle.order.specs.Circle.{lowest_circle}
use Rattle.order.specs.Ordered.{Ordered}
use Rattle.reader.specs.Inner.Rows.{row_gates}
use Rattle.text.specs.GateUses.{uses_of, evaluation}
use Rattle.text.specs.Header.{Header}
use Rattle.text.specs.Stages.{circled}

-- no gate reaches itself, and the first places hold the gates' order
pub record AllPlaced (h : Header) (rows : List (List ℕ)) (order : List ℕ) : Type 0 where
  pub none : lowest_circle (uses_of (row_gates h rows)) h.gates ≡ h.gates
  pub placed : take h.gates order ≡ evaluation (row_gates h rows)

-- the numbers below n in some order of evaluation
pub record InOrder (order : List ℕ) (n : ℕ) : Type 0 where
  pub uses : List ℕ
  pub ordered : Ordered uses n order

abbrev pub OrderedAs : Header → (rows : List (List ℕ)) → Result (List ℕ) Refusal → Type 0
OrderedAs h rows (Ok order) = AllPlaced h rows order
OrderedAs h rows (Err r) = circled (3 + h.inputs + h.latches) (row_gates h rows) ≡ refused (number_of r.fault) r.place
