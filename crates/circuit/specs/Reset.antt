-- Reset (01, "The game": reset is state 0), as a predicate on states. Assumes nothing.
use Rattle.std.specs.Prelude.{ℕ, Bool, eqb}
use Rattle.circuit.specs.Circuit.{Circuit}

unfoldable pub is_reset : Circuit → ℕ → Bool
is_reset c s = eqb s 0
