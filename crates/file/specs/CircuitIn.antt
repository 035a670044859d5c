-- The circuit that a file's bytes mean, or number and place (01, "What the library takes and gives"): the text form, within the limits of
-- the circuit kind. Assumes nothing.
use Rattle.std.specs.Prelude.{ℕ, List}
use Rattle.circuit.specs.Circuit.{Circuit}
use Rattle.circuit.specs.Limits.{base}
use Rattle.circuit.specs.Outcome.{Outcome}
use Rattle.text.specs.Read.{circuit_read}

unfoldable pub circuit_in : List ℕ → Outcome Circuit
circuit_in file = circuit_read base file
