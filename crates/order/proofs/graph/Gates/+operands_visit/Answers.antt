-- A visit and the operands of a gate, each by the other. Assumes nothing.
use mathlib.Core.Path.{sym, ◌∙◌}
use Rattle.order.proofs.Laws.Marks.{unmarked_below}
use Rattle.order.proofs.Laws.Reached.{stayed, entered}
use Rattle.order.proofs.graph.Gates.+operands_visit.Goals as goal

pub visit-returns-then-seen-clause-visited : goal.visit-returns-then-seen-clause-visited
visit-returns-then-seen-clause-visited t c =
    let g = c.args.self.now in
    stayed g.uses.now g.marks.now g.order.now c.args.gate c.args.count (sym c.seen.ensures ∙ c.if-seen.true)

pub visit-returns-clause-visited : goal.visit-returns-clause-visited
visit-returns-clause-visited t c =
    let g = c.args.self.now in
    let o = c.operands in
    let unmarked = sym c.seen.ensures ∙ c.if-seen.false in
    entered g.uses.now g.marks.now g.order.now c.args.gate c.args.count (unmarked_below g.marks.now c.args.gate unmarked) unmarked
    o.new.self.marks.now o.new.self.order.now o.result o.ensures.visited
