-- `Names::none` meets its contract: each number is 0.
use Rattle.std.proofs.Common.{◌+◌}
use Rattle.circuit.specs.Limits.{base}
use Rattle.net.proofs.Laws.Naming.{names_none, none_below}
use Rattle.net.proofs.names.Names.none.Goals as goal

pub invariant_of-result : goal.invariant_of-result
invariant_of-result c = record { few = none_below (base.variable + 1) c.filled.result c.filled.ensures }

pub returns : goal.returns
returns c = names_none (base.variable + 1) c.filled.result c.filled.ensures
