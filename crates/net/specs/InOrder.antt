-- A net in order: each literal names a variable that stands before it, and there are no more variables and latches than a circuit may need.
-- Assumes nothing.
use Rattle.std.specs.Prelude.{ℕ, suc, ◌+◌, ◌*◌, ◌≤◌, ◌<◌, List, [], ◌∷◌, ◌≡◌, length}
use Rattle.circuit.specs.Limits.{base}
use Rattle.net.specs.Net.{net_output, net_nexts, net_operands, net_latches, move_bits}

-- how many variables a net has at most: a constant, 13 inputs, 10 latches and 1,000 gates
abbrev pub variables : ℕ
variables = 1024

-- each literal is below 2 × v
abbrev pub AllBefore : (v : ℕ) → List ℕ → Type 0
AllBefore v [] = Unit {0}
AllBefore v (l ∷ ls) = (l < 2 * v) × AllBefore v ls

-- two operands for each gate, before its own variable; v is that of the first gate, end the one behind the last
abbrev pub GatesInOrder : List ℕ → (v end : ℕ) → Type 0
GatesInOrder [] v end = v ≡ end
GatesInOrder (a ∷ []) v end = ⊥
GatesInOrder (a ∷ b ∷ rest) v end = (a < 2 * v) × (b < 2 * v) × GatesInOrder rest (suc v) end

pub record InOrder (net : List ℕ) : Type 0 where
  pub end : ℕ
  pub few : end ≤ variables
  pub gates : GatesInOrder (net_operands net) (suc (move_bits net)) end
  pub output : net_output net < 2 * end
  pub nexts : AllBefore end (net_nexts net)
  pub states : net_latches net ≤ base.latches
  pub long : 4 + net_latches net ≤ length net
