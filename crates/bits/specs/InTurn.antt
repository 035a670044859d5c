-- Texts one behind the other: what f gives at 0, 1, .. n − 1. Assumes nothing.
use Rattle.std.specs.Prelude.{ℕ, zero, suc, List, [], ◌++◌}

unfoldable pub in_turn : (ℕ → List ℕ) → ℕ → List ℕ
in_turn f zero = []
in_turn f (suc n) = in_turn f n ++ f n
