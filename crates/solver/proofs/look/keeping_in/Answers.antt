-- `solver::look::keeping_in` meets its contract: the slot says what the moves of its lanes do.
use Prim.Native.Nat.{ℕ, ◌/◌, ◌<◌}
use native.Mathlib.Omega.{arith}
use mathlib.Core.Bool.{Bool}
use mathlib.Core.List.{List}
use mathlib.Core.Path.{◌≡◌, ap}
use lib.ListN.{take}
use Rattle.blocks.specs.Lane.{width, move_in}
use Rattle.keeping.specs.Inner.InLane.{keeps_in}
use Rattle.keeping.specs.Unranked.{set_of}
use Rattle.solver.specs.Inner.Moves.{move_keeps}
use Rattle.solver.specs.Inner.Planes.{slot_at}
use Rattle.solver.proofs.Laws.Held.{held_says}
use Rattle.solver.proofs.Laws.Search.{block_none, block_found}
use Rattle.solver.proofs.look.keeping_in.Goals as goal
use Rattle.solver.proofs.look.keeping_in.Goals.{After-keeping_lane}

next : After-keeping_lane → List ℕ
next c = take c.latches-latches.result (slot_at c.hold-i.new.slots c.hold-i.result).next

says : (c : After-keeping_lane) (j : ℕ) → j < width → (these : ℕ → Bool)
    → keeps_in these (slot_at c.hold-i.new.slots c.hold-i.result).error (next c) j ≡ move_keeps c.args.net.now these (move_in (c.args.from / 64) j)
unfolding next
says c = let h = c.hold-i in
    held_says c.args.net.now h.new.slots h.result (c.args.from / 64) (next c) c.requires.in_order h.ensures.still_held h.ensures.holds
    (ap (λ (n : ℕ). take n (slot_at h.new.slots h.result).next) c.latches-latches.ensures)

pub returns-in_err-lane-clause-found : goal.returns-in_err-lane-clause-found
unfolding next
returns-in_err-lane-clause-found c = let a = c.args in
    let h = (goal.at.returns-in_err-lane-clause-found c).After-keeping_lane in
    rw c.from_residual.ensures
    (block_none a.net.now (set_of a.set) _ (next h) (a.from / 64) a.from a.end (says h) (omega arith) (omega arith) (omega arith) c.in_err-lane.ensures.lane)

pub returns-clause-found : goal.returns-clause-found
unfolding next
returns-clause-found c = let a = c.args in
    let h = (goal.at.returns-clause-found c).After-keeping_lane in
    block_found a.net.now (set_of a.set) _ (next h) (a.from / 64) a.from a.end (says h) (omega arith) (omega arith) (omega arith)
    _ _ c.in_ok-lane.ensures.lane c.in_ok-lane.ensures.within c.in_ok-lane.ensures.lead
