-- What `Values::next_state` keeps from turn to turn: the bits from i on add up to the state.
use Rattle.step.specs.Truths.{truths}
use Rattle.step.proofs.Laws.NextIn.{NextFrom}
use Rattle.step.proofs.truths.Values.next_state.Given as goal

abbrev pub invariant-loop-i : goal.invariant-loop-i
invariant-loop-i l = NextFrom l.circuit (truths l.self.bytes) l.i l.state
