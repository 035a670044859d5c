-- The circuit of a file from behind its header on (01, "The numbers"). Assumes nothing.
use Rattle.circuit.specs.Circuit.{Circuit, too_many}
use Rattle.circuit.specs.Limits.{base}
use Rattle.circuit.specs.Outcome.{Outcome, taken, ◌>>=◌, ◌>>◌, refuse_if}
use Rattle.text.specs.Numbers.{too_many_inputs}
use Rattle.text.specs.TextFile.{TextFile, circuit_of}

-- number 9, and then the circuit
unfoldable pub circuit_of_lines : Outcome TextFile → Outcome Circuit
circuit_of_lines o = o >>= λ f. refuse_if (too_many base (circuit_of f)) too_many_inputs 0 >> taken (circuit_of f)
