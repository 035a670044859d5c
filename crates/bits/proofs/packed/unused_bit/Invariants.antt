-- What `bits::packed::unused_bit` keeps from turn to turn: none of the unused bits passed is 1. Assumes nothing.
use Rattle.bits.proofs.Laws.UnusedBytes.{NoneBefore}
use Rattle.bits.proofs.packed.unused_bit.Given as goal

abbrev pub invariant-loop-at : goal.invariant-loop-at
invariant-loop-at l = NoneBefore l.bytes l.n l.at l.used
