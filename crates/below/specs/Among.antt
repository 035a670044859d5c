-- Some element of a list passes a test (01, "The file": a variable that is defined, a position that is named). Assumes nothing.
use Rattle.std.specs.Prelude.{ℕ, Bool, false, ◌||◌, List, [], ◌∷◌, eqb}

module _ {ℓ} {A : Type ℓ} where
  unfoldable pub among : (A → Bool) → List A → Bool
  among p [] = false
  among p (x ∷ xs) = p x || among p xs

unfoldable pub member : ℕ → List ℕ → Bool
member v vs = among (eqb v) vs
