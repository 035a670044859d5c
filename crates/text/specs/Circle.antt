-- The lowest line of a gate that reaches itself (02, T-01: "16, some gate reaches itself through gates, place the lowest line of such a gate").
-- Assumes nothing.
use Rattle.std.specs.Prelude.{ℕ, ◌+◌, ◌<◌, ◌≤◌, List, ◌≡◌, length}
use Rattle.circuit.specs.Circuit.{Gate}
use Rattle.text.specs.Numbers.{gate_circle}
use Rattle.text.specs.WellFormed.{ReachesItself}

-- the first gate's line at a place
pub record Circle (start : ℕ) (gates : List Gate) (number place : ℕ) : Type 0 where
  pub index : ℕ
  pub within : index < length gates
  pub line : place ≡ start + index
  pub reaches : ReachesItself gates index
  pub lowest : (i : ℕ) → i < length gates → ReachesItself gates i → index ≤ i
  pub sixteen : number ≡ gate_circle
