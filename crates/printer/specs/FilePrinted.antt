-- What is printed for a file, given room for so many bytes (01, "The numbers"): the file's refusals, then 10, else its circuit's print.
-- Assumes nothing.
use Rattle.std.specs.Prelude.{ℕ, List}
use Rattle.circuit.specs.Outcome.{Outcome, ◌>>=◌}
use Rattle.file.specs.CircuitIn.{circuit_in}
use Rattle.text.specs.Printed.{printed_into}

unfoldable pub file_printed : (file : List ℕ) → (room : ℕ) → Outcome (List ℕ)
file_printed file room = circuit_in file >>= λ c. printed_into c room
