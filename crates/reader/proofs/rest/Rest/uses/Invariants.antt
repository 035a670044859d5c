-- What `Rest::uses` keeps from turn to turn: the operands of so many gates are put there. Assumes nothing.
use Prim.Native.Nat.{◌+◌, ◌*◌}
use Rattle.below.proofs.Laws.Filled.{Filled}
use Rattle.reader.specs.Inner.Definers.{operand_at}
use Rattle.reader.proofs.rest.Rest.uses.Given as goal

abbrev pub invariant-loop-i : goal.invariant-loop-i
invariant-loop-i l =
    let h = l.self.header in
    Filled (operand_at l.body.rows (h.inputs + h.latches + 1) l.definers h.gates) l.initial.uses (2 * l.i) l.uses
