-- A step of the circuit that a file's bytes mean, or the file's refusal (01, "The game"). Assumes nothing.
use Rattle.std.specs.Prelude.{ℕ, List}
use Rattle.circuit.specs.Outcome.{Outcome, taken, ◌>>=◌}
use Rattle.file.specs.CircuitIn.{circuit_in}
use Rattle.step.specs.Step.{step}
use Rattle.step.specs.declared.Stepped.{Stepped}

unfoldable pub file_stepped : (file : List ℕ) → (state reading control : ℕ) → Outcome Stepped
file_stepped file state reading control = circuit_in file >>= λ c. taken (step c state reading control)
