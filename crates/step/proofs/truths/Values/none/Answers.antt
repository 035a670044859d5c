-- `Values::none` meets its contract: no byte has a bit.
use Rattle.std.proofs.Common.{◌+◌, ◌/◌}
use Rattle.circuit.specs.Limits.{base}
use Rattle.step.proofs.Laws.Truths.{none_true}
use Rattle.step.proofs.truths.Values.none.Goals as goal

pub returns : goal.returns
returns c = none_true ((base.variable + 1 + 7) / 8) c.filled.result c.filled.ensures
