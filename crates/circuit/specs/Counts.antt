-- L, U and C of a circuit (01, the table of limits). Assumes nothing.
use Rattle.circuit.specs.Circuit.{Circuit, latch_count, uncontrollable_count, controllable_count}
use Rattle.circuit.specs.declared.counts.Counts.{Counts}

unfoldable pub counts_of : Circuit → Counts
counts_of c = record { latches = latch_count c; readings = uncontrollable_count c; controls = controllable_count c }
