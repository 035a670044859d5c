-- What `solver::look::Search::least_defeat` keeps from turn to turn: no reading passed defeats.
use Prim.Native.Nat.{◌-◌}
use Rattle.keeping.specs.RankList.{ranks_in}
use Rattle.solver.specs.Inner.Search.{Same}
use Rattle.solver.proofs.Laws.Defeat.{Passed}
use Rattle.solver.proofs.look.Search.least_defeat.Given as goal

abbrev pub invariant-loop-place : goal.invariant-loop-place
invariant-loop-place l = let s = l.initial.self in record {
  passed : Passed s.net.now (ranks_in s.set.ranks.now) s.set.bound l.state l.n l.from;
  same : Same s l.self;
}

abbrev pub decreases-loop-place : goal.decreases-loop-place
decreases-loop-place l = l.end - l.from
