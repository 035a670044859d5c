-- `solver::look::Search::least_kept` meets its contract: the control kept still keeps, or the search goes on behind it.
use native.Mathlib.Omega.{arith}
use mathlib.Core.Path.{sym, ◌∙◌}
use Rattle.keeping.specs.Unranked.{set_of}
use Rattle.solver.proofs.Laws.Kept.{still_some, still_least, none_behind}
use Rattle.solver.proofs.look.Search.least_kept.Goals as goal

pub overflow_sub-result : goal.overflow_sub-result
overflow_sub-result c = let s = c.args.self.now in
    omega (
      arith,
      still_some s.net.now (set_of s.set) c.args.place _ (s.all_kept.at c.args.place c.requires) (sym c.still_keeps.ensures ∙ c.if-still_keeps.true),
      c.from.ensures,
    )

pub returns-then-still_keeps-clause-control : goal.returns-then-still_keeps-clause-control
returns-then-still_keeps-clause-control c = let s = c.args.self.now in
    rw c.from.ensures
    (still_least s.net.now (set_of s.set) c.args.place _ (s.all_kept.at c.args.place c.requires) (sym c.still_keeps.ensures ∙ c.if-still_keeps.true))

pub look_on-requires-clause-behind : goal.look_on-requires-clause-behind
look_on-requires-clause-behind c = let s = c.args.self.now in
    none_behind s.net.now (set_of s.set) c.args.place _ (s.all_kept.at c.args.place c.requires) (sym c.still_keeps.ensures ∙ c.if-still_keeps.false)
