-- `Gates::meets_itself` meets its contract: two visits from nothing, then the mark. Assumes nothing.
use mathlib.Core.Path.{◌∙◌}
use Rattle.order.proofs.Laws.Met.{both_met}
use Rattle.order.proofs.graph.Gates.meets_itself.Goals as goal

pub returns-clause-answer : goal.returns-clause-answer
returns-clause-answer c =
    let k = c.clear in
    let v = c.visit-placed in
    let w = c.visit in
    c.seen.ensures
    ∙ both_met c.args.self.now k.new.self c.args.gate k.ensures.kept k.ensures.marks c.operands_of-first.result.0 c.operands_of-first.ensures.first
    v.new.self v.result v.ensures.kept v.ensures.visited c.operands_of-first.result.1 c.operands_of-first.ensures.second w.new.self w.result w.ensures.visited
