-- What `solver::look::Search::keeping_from` keeps from turn to turn: no move of a block passed keeps.
use mathlib.Core.Path.{◌≡◌}
use Rattle.keeping.specs.Unranked.{set_of}
use Rattle.solver.specs.Inner.Search.{Same}
use Rattle.solver.proofs.Laws.Search.{NoneBefore}
use Rattle.solver.proofs.look.Search.keeping_from.Given as goal

abbrev pub invariant-loop-block : goal.invariant-loop-block
invariant-loop-block l = record {
  passed : NoneBefore l.initial.self.net.now (set_of l.initial.self.set) l.from l.end l.block;
  same : Same l.initial.self l.self;
  kept : l.self.kept.now ≡ l.initial.self.kept.now;
}
