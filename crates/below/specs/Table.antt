-- A table: what f gives at 0, 1, .. n − 1, as a list. Assumes nothing.
use Rattle.std.specs.Prelude.{ℕ, zero, suc, List, [], ◌∷◌, ◌++◌}

module _ {ℓ} {A : Type ℓ} where
  unfoldable pub table : (ℕ → A) → ℕ → List A
  table f zero = []
  table f (suc n) = table f n ++ (f n ∷ [])
