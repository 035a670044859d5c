-- `printer::sections::Names` puts a symbol in its four parts where the input is controllable, and else nothing. Assumes nothing.
use mathlib.Core.Path.{sym, ◌∙◌}
use Rattle.printer.proofs.Laws.Line.{added_name, added_no_name}
use Rattle.printer.proofs.sections.NamesTexts.put_nth.Goals as goal

pub returns-then-is_controllable : goal.returns-then-is_controllable
returns-then-is_controllable c =
    added_name c.args.self.now.0 c.args.i (sym c.is_controllable.ensures ∙ c.if-is_controllable.true) c.bytes.ensures c.number.ensures
    c.bytes-then-is_controllable.ensures c.line.ensures

pub returns-else-is_controllable : goal.returns-else-is_controllable
returns-else-is_controllable c =
    added_no_name c.args.self.now.0 c.args.i c.args.page.now (sym c.is_controllable.ensures ∙ c.if-is_controllable.false)
