-- `solver::planes::hold` meets its contract: the slot holds the block already, or its planes are put in.
use native.Mathlib.Omega.{arith}
use mathlib.Core.Path.{ap, ◌∙◌}
use lib.ListN.{length-set}
use lib.Seq.{get_or-set_same}
use Rattle.solver.specs.Inner.Planes.{planes_of}
use Rattle.solver.specs.declared.planes.Slot.{Slot}
use Rattle.solver.proofs.Laws.Held.{planes_held, held_put}
use Rattle.solver.proofs.planes.hold.Goals as goal

pub returns-then-slots-i-clause-holds : goal.returns-then-slots-i-clause-holds
unfolding planes_of
returns-then-slots-i-clause-holds c = record {
  within = omega (arith, length-set c.args.slots.now c.slot_of-i.result c.planes.result, c.slot_of-i.ensures);
  marked = ap (λ (s : Slot). s.mark) (get_or-set_same c.args.slots.now c.slot_of-i.result c.planes.result _ c.slot_of-i.ensures ∙ c.planes.ensures);
}

pub returns-then-slots-i-clause-still_held : goal.returns-then-slots-i-clause-still_held
returns-then-slots-i-clause-still_held c = let a = c.args in
    held_put a.net.now a.slots.now c.slot_of-i.result c.planes.result c.requires.all_held c.slot_of-i.ensures
    (rw c.planes.ensures (planes_held a.net.now c.requires.in_order _ c.evaluate.new.words a.block c.evaluate.ensures))
