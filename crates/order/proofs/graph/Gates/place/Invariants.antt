-- What `Gates::place` keeps from turn to turn: after each visit marks and places are those of the definition. Assumes nothing.
use Rattle.order.proofs.Laws.Going.{Going}
use Rattle.order.proofs.graph.Gates.place.Given as goal

abbrev pub invariant-loop-gate : goal.invariant-loop-gate
invariant-loop-gate l = Going l.fn.self l.self l.gate l.count
