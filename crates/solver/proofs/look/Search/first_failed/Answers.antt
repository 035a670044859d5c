-- `solver::look::Search::first_failed` meets its contract: a search over the first places.
use native.Mathlib.Omega.{arith}
use mathlib.Core.Path.{◌≡◌, ap, ◌∙◌}
use lib.ListN.{length, take, length-take}
use Rattle.std.proofs.Common.{unwrap_or}
use Rattle.keeping.specs.Unranked.{set_of}
use Rattle.keeping.proofs.Laws.KeptControls.{first_front}
use Rattle.solver.proofs.look.Search.first_failed.Goals as goal

pub returns-clause-place : goal.returns-clause-place
returns-clause-place c = let a = c.args in
    let s = a.self.now in
    let long : a.end ≡ length (take a.end s.kept.now) = omega (arith, length-take a.end s.kept.now) in
    ap (unwrap_or c.first_failed.result) long ∙ c.first_failed.ensures.place ∙ first_front s.kept.now (set_of s.set) a.end a.from c.requires
