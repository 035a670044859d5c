-- What `next_in` keeps from turn to turn: the bits from k on add up to the state.
use Rattle.blocks.specs.Lane.{lits_in}
use Rattle.blocks.proofs.Laws.LookUp.{NextFrom}
use Rattle.blocks.proofs.next_in.Given as goal

abbrev pub invariant-loop-k : goal.invariant-loop-k
invariant-loop-k l = NextFrom l.net (lits_in l.words l.j) l.k l.state
