-- What `Gates::in_order` keeps from turn to turn: the gates in front are marked. Assumes nothing.
use Rattle.std.proofs.Common.{◌≡◌}
use Rattle.order.specs.Inner.Kept.{Kept, gate_count}
use Rattle.order.proofs.Laws.Tested.{Tested}
use Rattle.order.proofs.graph.Gates.in_order.Given as goal

abbrev pub invariant-loop-k : goal.invariant-loop-k
invariant-loop-k l = record {
  kept : Kept l.fn.self l.self;
  order : l.self.order.now ≡ l.fn.self.order.now;
  tested : Tested l.fn.self.uses.now (gate_count l.fn.self) l.fn.self.order.now l.k l.self.marks.now;
}
