-- `keeping::rank_list::Unranked::first_failed` meets its contract: no place passed failed.
use mathlib.Core.Path.{sym, ◌∙◌}
use Rattle.keeping.proofs.Laws.KeptControls.{none_yet, fails-here, none_here, none_fails}
use Rattle.keeping.proofs.rank_list.Unranked.first_failed.Goals as goal

pub loop-place-init : goal.loop-place-init
loop-place-init c = none_yet _ _ _

pub returns-then-not-still_keeps-clause-place : goal.returns-then-not-still_keeps-clause-place
returns-then-not-still_keeps-clause-place c = let l = c.loop-place in
    fails-here _ _ _ l.place l.invariant c.loop-place-test.true (sym c.still_keeps.ensures ∙ c.if-not-still_keeps.true)

pub loop-place-preserved : goal.loop-place-preserved
loop-place-preserved c = let l = c.loop-place in
    none_here _ _ _ l.place l.invariant c.loop-place-test.true (sym c.still_keeps.ensures ∙ c.if-not-still_keeps.false)

pub returns-clause-place : goal.returns-clause-place
returns-clause-place c = none_fails _ _ _ c.loop-place.place c.loop-place.invariant c.loop-place-test.false
