-- What `solver::planes::planes` keeps from turn to turn: the words passed are those of the latches.
use Prim.Native.Nat.{◌+◌, ◌%◌}
use lib.ListN.{get_or}
use Rattle.below.proofs.Laws.Filled.{Filled}
use Rattle.blocks.specs.Evaluated.{literals}
use Rattle.solver.proofs.planes.planes.Given as goal

abbrev pub invariant-loop-k : goal.invariant-loop-k
invariant-loop-k l = Filled (λ k. get_or l.words (get_or l.net (4 + k) 0 % literals) 0) l.initial.next l.k l.next
