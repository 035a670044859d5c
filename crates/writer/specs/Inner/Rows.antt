-- The attack table (01, "The certificate", kind 4): the three bytes of a state. Assumes nothing.
use Rattle.std.specs.Prelude.{ℕ, List, [], ◌∷◌, ◌++◌}
use Rattle.bits.specs.Digits.{digits}

unfoldable pub attack_row : (ranks attacks : ℕ → ℕ) → (state : ℕ) → List ℕ
attack_row ranks attacks s = digits 256 2 (ranks s) ++ (attacks s ∷ [])
