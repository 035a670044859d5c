-- `keeping::rank_list::Unranked::keeping_lane` meets its contract: none of the lanes passed keeps.
use mathlib.Core.Bool.{true, false}
use mathlib.Core.Path.{◌≡◌, sym, ap, ◌∙◌}
use Rattle.below.proofs.Laws.LeastFrom.{searched_start}
use Rattle.keeping.specs.Inner.InLane.{keeps_in}
use Rattle.keeping.specs.Unranked.{set_of}
use Rattle.keeping.proofs.Laws.InLane.{error_fails, next_decides}
use Rattle.keeping.proofs.Laws.LaneSearch.{search_here, search_next, search_end}
use Rattle.keeping.proofs.rank_list.Unranked.keeping_lane.Goals as goal
use Rattle.keeping.proofs.rank_list.Unranked.keeping_lane.Goals.{then-not-is_lane+else-contains, else-not-is_lane}

pub loop-lane-init : goal.loop-lane-init
loop-lane-init c = searched_start _ _ _

pub returns-then-contains-clause-lane : goal.returns-then-contains-clause-lane
returns-then-contains-clause-lane c = let l = c.loop-lane in
    let a = c.args in
    let set = set_of a.self in
    let free = sym c.is_lane.ensures ∙ c.if-not-is_lane.true in
    let keeps : keeps_in set a.error a.next.now l.lane ≡ true = next_decides set a.error a.next.now l.lane free
    ∙ ap set (sym (c.from.ensures ∙ c.lane_number-lead.ensures)) ∙ sym c.contains.ensures ∙ c.if-contains.true in
    search_here _ _ _ l.lane l.invariant c.loop-lane-test.true keeps

pub loop-lane-preserved : goal.loop-lane-preserved
loop-lane-preserved c = let l = c.loop-lane in
    let a = c.args in
    let set = set_of a.self in
    let look = c.is_lane.ensures in
    let fails : keeps_in set a.error a.next.now l.lane ≡ false =
    elim c.if-not-is_lane.branch [
      | then-not-is_lane+else-contains w ↦ next_decides set a.error a.next.now l.lane (sym look ∙ w.if-not-is_lane.true)
          ∙ ap set (sym (w.from.ensures ∙ w.lane_number-lead.ensures)) ∙ sym w.contains.ensures ∙ w.if-contains.false
      | else-not-is_lane w ↦ error_fails set a.error a.next.now l.lane (sym look ∙ w.if-not-is_lane.false)
    ] in
    search_next _ _ _ l.lane l.invariant c.loop-lane-test.true fails

pub returns-clause-lane : goal.returns-clause-lane
returns-clause-lane c = search_end _ _ _ c.loop-lane.lane c.loop-lane.invariant c.loop-lane-test.false
