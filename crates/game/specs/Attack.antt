-- Attack (01, "The game"): the least reading that shows the rank; 0 in the region. And what the ranks and attacks of a certificate must do
-- (01, "The certificate"). Assumes nothing.
use Rattle.std.specs.Prelude.{ℕ, ◌-◌, Bool, cond, not, ◌&&◌, ltb}
use Rattle.below.specs.Least.{least}
use Rattle.game.specs.Game.{Game}
use Rattle.game.specs.Rank.{rank, in_region, defeats}

unfoldable pub attack : Game → (state : ℕ) → ℕ
attack g s = cond (in_region g s) 0 (least (defeats g (rank g) (rank g s - 1) s) g.readings)

-- a state of rank k above 0 whose attack is no reading, or leaves some control neither error 1 nor a next state of rank 1 to k − 1
unfoldable pub attack_broken : Game → (ranks attacks : ℕ → ℕ) → (state : ℕ) → Bool
attack_broken g ranks attacks s =
    ltb 0 (ranks s) && not (ltb (attacks s) g.readings && defeats g ranks (ranks s - 1) s (attacks s))
