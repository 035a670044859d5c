-- What `keeping::lane::lane_number` keeps from turn to turn: the bits of the words taken, from the last back, add up to the number.
use lib.ListN.{length}
use Rattle.keeping.proofs.Laws.InLane.{Taken}
use Rattle.keeping.proofs.lane.lane_number.Given as goal

abbrev pub invariant-loop-word : goal.invariant-loop-word
invariant-loop-word l = Taken l.words l.j (length l.yielded) l.number
