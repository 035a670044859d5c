-- `printer::CircuitText` puts the parts of the print one behind the other. Assumes nothing.
use mathlib.Core.Path.{◌∙◌}
use Rattle.printer.proofs.Laws.Printed.{added_printed}
use Rattle.printer.proofs.CircuitTextText.put.Goals as goal

pub returns : goal.returns
returns c =
    added_printed c.args.self.now.0 c.from.ensures c.latches_of-latches.ensures (c.from-2.ensures ∙ c.literal.ensures) c.bytes.ensures
    c.line.ensures c.in_turn.ensures c.in_turn-2.ensures c.line-2.ensures c.in_turn-3.ensures c.in_turn-4.ensures
