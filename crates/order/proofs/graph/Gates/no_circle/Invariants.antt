-- What `Gates::no_circle` keeps from turn to turn: none of the gates passed meets itself. Assumes nothing.
use Rattle.order.proofs.Laws.Searching.{Searching}
use Rattle.order.proofs.graph.Gates.no_circle.Given as goal

abbrev pub invariant-loop-gate : goal.invariant-loop-gate
invariant-loop-gate l = Searching l.fn.self l.self l.gate
