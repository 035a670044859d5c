-- The variables that a circuit defines (01, "The file", rule 4), in file order. Assumes nothing.
use Rattle.std.specs.Prelude.{ℕ, List, ◌++◌, map}
use Rattle.circuit.specs.Circuit.{Circuit, Input, Latch, Gate}
use Rattle.circuit.specs.Literal.{variable}

abbrev pub input_variable : Input → ℕ
input_variable i = variable i.own

abbrev pub latch_variable : Latch → ℕ
latch_variable l = variable l.own

abbrev pub gate_variable : Gate → ℕ
gate_variable g = variable g.own

-- those of inputs and latches, and all
abbrev pub of_inputs_and_latches : Circuit → List ℕ
of_inputs_and_latches c = map input_variable c.inputs ++ map latch_variable c.latches

abbrev pub defined_by : Circuit → List ℕ
defined_by c = of_inputs_and_latches c ++ map gate_variable c.gates
