-- `solver::look::Search::least_defeat` meets its contract: no reading passed defeats, and the control found at each place decides.
use Prim.Native.Nat.{◌+◌, ◌*◌, ◌≤◌}
use native.Mathlib.Omega.{arith}
use mathlib.Core.Bool.{not}
use mathlib.Core.Path.{◌≡◌, ap, ◌∙◌}
use Rattle.std.proofs.Common.{rules}
use Rattle.below.specs.LeastFrom.{least_from}
use Rattle.keeping.specs.KeptControls.{fails_in}
use Rattle.keeping.specs.RankList.{ranks_in}
use Rattle.keeping.specs.Unranked.{set_of}
use Rattle.solver.specs.Inner.Kept.{Kept}
use Rattle.solver.specs.Inner.Moves.{places}
use Rattle.solver.proofs.Laws.Defeat.{Passed, state_places, passed_none, place_later, place_behind, passed_to, reading_none, reading_found, passed_more}
use Rattle.solver.proofs.Laws.Moves.{few_places}
use Rattle.solver.proofs.look.Search.least_defeat.Goals as goal
use Rattle.solver.proofs.look.Search.least_defeat.Goals.{After-readings-n, At-loop-place, In-Some}

-- the places of the state
within : (c : After-readings-n) → c.args.state * c.readings-n.result + c.readings-n.result ≤ places c.args.self.now.net.now
within c = let s = c.args.self.now in
    state_places s.net.now (ranks_in s.set.ranks.now) s.set.bound c.args.state c.readings-n.result c.requires c.readings-n.ensures.value

few : (c : After-readings-n) → c.args.state * c.readings-n.result + c.readings-n.result ≤ 32768
few c = let s = c.args.self.now in omega (arith, within c, few_places s.net.now s.all_kept.sized)

pub overflow_mul-first : goal.overflow_mul-first
overflow_mul-first c = omega (arith, few (goal.at.overflow_mul-first c).After-readings-n)

pub overflow_add-end : goal.overflow_add-end
overflow_add-end c = omega (arith, few (goal.at.overflow_add-end c).After-readings-n)

pub loop-place-init : goal.loop-place-init
loop-place-init c = let s = c.args.self.now in record {
  passed = passed_none s.net.now (ranks_in s.set.ranks.now) s.set.bound c.args.state c.readings-n.result c.requires c.readings-n.ensures.value;
  same = search rules;
}

pub first_failed-requires : goal.first_failed-requires
first_failed-requires c = let l = c.loop-place in
    let long = rw l.invariant.same.0 at l.self.all_kept.long in
    omega (arith, long, within (goal.at.first_failed-requires c).After-readings-n)

-- what is kept, by the net and the set of the start
kept : (c : At-loop-place) → Kept c.args.self.now.net.now (set_of c.args.self.now.set) c.loop-place.self.kept.now c.loop-place.self.slots.now
kept c = let l = c.loop-place in rw (l.invariant.same.0, l.invariant.same.1) at l.self.all_kept

-- the place that the search came to
place : (c : In-Some) → c.in-Some.place ≡ least_from (fails_in c.loop-place.self.kept.now (set_of c.args.self.now.set)) c.loop-place.from
    (c.args.state * c.readings-n.result + c.readings-n.result)
place c = rw c.loop-place.invariant.same.1 at c.in-Some.ensures.place

passed : (c : In-Some) → Kept c.args.self.now.net.now (set_of c.args.self.now.set) c.loop-place.self.kept.now c.loop-place.self.slots.now
    → Passed c.args.self.now.net.now (ranks_in c.args.self.now.set.ranks.now) c.args.self.now.set.bound c.args.state c.readings-n.result c.in-Some.place
passed c all = let s = c.args.self.now in
    let l = c.loop-place in
    passed_to s.net.now (ranks_in s.set.ranks.now) s.set.bound c.args.state c.readings-n.result c.requires c.readings-n.ensures.value l.self.kept.now
    l.self.slots.now all l.from l.invariant.passed c.in-Some.place (place c) c.in-Some.ensures.within

pub look_on-requires-clause-place_bound : goal.look_on-requires-clause-place_bound
look_on-requires-clause-place_bound c =
    rw c.loop-place.invariant.same.0 (omega (arith, c.in-Some.ensures.within, within (goal.at.look_on-requires-clause-place_bound c).After-readings-n))

pub look_on-requires-clause-behind : goal.look_on-requires-clause-behind
look_on-requires-clause-behind c = let s = c.args.self.now in
    let l = c.loop-place in
    rw (l.invariant.same.0, l.invariant.same.1)
    (place_behind s.net.now (ranks_in s.set.ranks.now) s.set.bound c.args.state c.readings-n.result c.requires c.readings-n.ensures.value l.self.kept.now
    l.self.slots.now (kept (goal.at.look_on-requires-clause-behind c).At-loop-place) l.from l.invariant.passed c.in-Some.place
    (place (goal.at.look_on-requires-clause-behind c).In-Some) c.in-Some.ensures.within)

pub overflow_sub-result : goal.overflow_sub-result
overflow_sub-result c = (passed (goal.at.overflow_sub-result c).In-Some (kept (goal.at.overflow_sub-result c).At-loop-place)).started

pub returns-then-is_none-clause-reading : goal.returns-then-is_none-clause-reading
returns-then-is_none-clause-reading c = let s = c.args.self.now in
    let l = c.loop-place in
    let p = passed (goal.at.returns-then-is_none-clause-reading c).In-Some (kept (goal.at.returns-then-is_none-clause-reading c).At-loop-place) in
    let control = rw (l.invariant.same.0, l.invariant.same.1) at c.look_on.ensures.control in
    reading_found s.net.now (ranks_in s.set.ranks.now) s.set.bound c.args.state c.readings-n.result c.requires c.readings-n.ensures.value c.in-Some.place p
    c.in-Some.ensures.within c.look_on.result (c.is_none.ensures ∙ ap not c.if-is_none.true) control

pub loop-place-smaller : goal.loop-place-smaller
loop-place-smaller c = let s = c.args.self.now in
    let l = c.loop-place in
    omega (
      arith,
      c.in-Some.ensures.within,
      place_later s.net.now (ranks_in s.set.ranks.now) s.set.bound c.args.state c.readings-n.result c.requires
          c.readings-n.ensures.value l.self.kept.now l.self.slots.now (kept (goal.at.loop-place-smaller c).At-loop-place) l.from l.invariant.passed
          c.in-Some.place
          (place (goal.at.loop-place-smaller c).In-Some) c.in-Some.ensures.within,
    )

pub loop-place-preserved : goal.loop-place-preserved
loop-place-preserved c = let s = c.args.self.now in
    let l = c.loop-place in
    let p = passed (goal.at.loop-place-preserved c).In-Some (kept (goal.at.loop-place-preserved c).At-loop-place) in
    let control = rw (l.invariant.same.0, l.invariant.same.1) at c.look_on.ensures.control in record {
      passed = passed_more s.net.now (ranks_in s.set.ranks.now) s.set.bound c.args.state c.readings-n.result c.requires c.readings-n.ensures.value
          c.in-Some.place p
          c.in-Some.ensures.within c.look_on.result (c.is_none.ensures ∙ ap not c.if-is_none.false) control;
      same = search rules;
    }

pub returns-clause-reading : goal.returns-clause-reading
returns-clause-reading c = let s = c.args.self.now in
    let l = c.loop-place in
    let none = rw l.invariant.same.1 at c.in_default.ensures.place in
    reading_none s.net.now (ranks_in s.set.ranks.now) s.set.bound c.args.state c.readings-n.result c.requires c.readings-n.ensures.value l.self.kept.now
    l.self.slots.now (kept (goal.at.returns-clause-reading c).At-loop-place) l.from l.invariant.passed none
