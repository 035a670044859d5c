-- How many gates aren't marked yet: what falls while gates are visited. Assumes nothing.
use Rattle.std.specs.Prelude.{ℕ, zero, suc, cond, List, [], ◌∷◌, eqb}

unfoldable pub unseen : List ℕ → ℕ
unseen [] = zero
unseen (m ∷ ms) = cond (eqb m 0) (suc (unseen ms)) (unseen ms)
