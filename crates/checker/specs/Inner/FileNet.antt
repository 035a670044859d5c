-- The net of the circuit that a file means. Assumes nothing.
use Rattle.std.specs.Prelude.{ℕ, List, ◌≡◌}
use Rattle.circuit.specs.Circuit.{Circuit}
use Rattle.circuit.specs.Outcome.{taken}
use Rattle.file.specs.CircuitIn.{circuit_in}
use Rattle.net.specs.NetOf.{net_of}

pub record FileNet (file net : List ℕ) : Type 0 where
  pub circuit : Circuit
  pub read : circuit_in file ≡ taken circuit
  pub is : net ≡ net_of circuit
