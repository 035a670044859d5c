-- The reply over any list of ranks, whoever made it (01, "The game"): the least control that keeps in the set of the states of rank 0; 0
-- where there is none. Assumes nothing.
use Rattle.std.specs.Prelude.{ℕ, Bool, cond, not, List, ltb}
use Rattle.below.specs.Least.{least}
use Rattle.game.specs.Game.{Game}
use Rattle.game.specs.Keeps.{keeps}
use Rattle.keeping.specs.RankList.{ranks_in}

-- the set of the states of rank 0
unfoldable pub rank_zero : List ℕ → (state : ℕ) → Bool
rank_zero ranks = λ s. not (ltb 0 (ranks_in ranks s))

-- what a search below n found, or 0
unfoldable pub found : (i n : ℕ) → ℕ
found i n = cond (ltb i n) i 0

unfoldable pub reply_over : Game → List ℕ → (state reading : ℕ) → ℕ
reply_over g ranks s r = cond (rank_zero ranks s) (found (least (keeps g (rank_zero ranks) s r) g.controls) g.controls) 0
