-- `printer::sections::Gates` puts the line of a gate that is there, and zeros for another. Assumes nothing.
use mathlib.Core.Path.{◌∙◌}
use Rattle.printer.proofs.Laws.Line.{added_gate, added_no_gate}
use Rattle.printer.proofs.sections.GatesTexts.put_nth.Goals as goal

pub returns-then-gate-self : goal.returns-then-gate-self
returns-then-gate-self c =
    added_gate c.args.self.now.0 c.args.i c.from-gate.result _ _ _ (c.from-gate.ensures ∙ c.get_or.ensures) c.if-gate-self.true
    (c.from.ensures ∙ c.literal_at.ensures) (c.from-then-gate-self.ensures ∙ c.literal_at-then-gate-self.ensures)
    (c.from-then-gate-self-2.ensures ∙ c.literal_at-then-gate-self-2.ensures) c.line.ensures

pub returns-else-gate-self : goal.returns-else-gate-self
returns-else-gate-self c =
    added_no_gate c.args.self.now.0 c.args.i c.from-gate.result (c.from-gate.ensures ∙ c.get_or.ensures) c.if-gate-self.false c.line-else-gate-self.ensures
