-- A visit and the operands of a gate, each by the other. The measures: twice the gates not seen yet, and one more for the operands of a gate that is
-- seen already. Assumes nothing.
use Prim.Native.Nat.{◌+◌, ◌*◌}
use Rattle.order.specs.Inner.Unseen.{unseen}
use Rattle.order.proofs.graph.Gates.+operands_visit.Given as goal

abbrev pub decreases-operands : goal.decreases-operands
decreases-operands l = 2 * unseen l.self.now.marks.now + 1

abbrev pub decreases-visit : goal.decreases-visit
decreases-visit l = 2 * unseen l.self.now.marks.now
