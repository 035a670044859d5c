-- When a writer that goes by a file is refused (01, "The numbers"): with the file's own number, or with 10 at 0 where the lent buffer is
-- shorter than what must be written. Assumes nothing.
use Rattle.std.specs.Prelude.{ℕ, ◌<◌, List, ◌≡◌, length}
use Rattle.circuit.specs.Answer.{no_room}
use Rattle.circuit.specs.Circuit.{Circuit}
use Rattle.circuit.specs.Outcome.{taken, refused}
use Rattle.file.specs.CircuitIn.{circuit_in}

-- `bytes` is what must be written for a circuit
pub data WriterRow (file : List ℕ) (bytes : Circuit → List ℕ) (room number place : ℕ) : Type 0 where
  of_file : circuit_in file ≡ refused number place → WriterRow file bytes room number place
  ten : number ≡ no_room → place ≡ 0 → (c : Circuit) → circuit_in file ≡ taken c → room < length (bytes c) → WriterRow file bytes room number place
