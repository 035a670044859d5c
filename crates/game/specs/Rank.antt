-- Rank (01, "The game"): 1 if some reading gives error 1 under every control; k + 1 if no smaller rank fits and some reading gives, under
-- every control, error 1 or a next state of rank 1 to k. A state of the region has rank 0. Assumes nothing.
use Rattle.std.specs.Prelude.{ℕ, zero, suc, ◌<◌, Bool, true, false, cond, not, ◌&&◌, ◌≡◌, leb, ltb}
use Rattle.game.specs.Game.{Game}
use Rattle.game.specs.Keeps.{answered, safe}

-- the set of states that aren't of rank 1 to k
unfoldable pub not_ranked : (ℕ → ℕ) → ℕ → (ℕ → Bool)
not_ranked ranks k = λ s. not (leb 1 (ranks s) && leb (ranks s) k)

-- this reading gives, under every control, error 1 or a next state of rank 1 to k: no control keeps out of those
unfoldable pub defeats : Game → (ℕ → ℕ) → ℕ → (state reading : ℕ) → Bool
defeats g ranks k s r = not (answered g (not_ranked ranks k) s r)

-- some reading does
unfoldable pub defeated : Game → (ℕ → ℕ) → ℕ → (state : ℕ) → Bool
defeated g ranks k s = not (safe g (not_ranked ranks k) s)

-- round k + 1, from the ranks of the round before, kept whole
unfoldable pub round : Game → ℕ → (ℕ → ℕ) → (ℕ → ℕ)
round g k ranks = λ s. cond (ltb 0 (ranks s)) (ranks s) (cond (defeated g ranks k s) (suc k) 0)

-- the ranks after n rounds
unfoldable pub ranks_after : Game → ℕ → (ℕ → ℕ)
ranks_after g zero = λ s. 0
ranks_after g (suc n) = round g n (ranks_after g n)

-- every state that gets a rank has it after as many rounds as there are states
unfoldable pub rank : Game → (state : ℕ) → ℕ
rank g s = ranks_after g g.states s

unfoldable pub in_region : Game → (state : ℕ) → Bool
in_region g s = not (ltb 0 (rank g s))

-- ranks as 01 says them, of any function on states
pub record AreRanks (g : Game) (ranks : ℕ → ℕ) : Type 0 where
  pub fits : (s k : ℕ) → s < g.states → ranks s ≡ suc k → defeated g ranks k s ≡ true
  pub least : (s k j : ℕ) → s < g.states → ranks s ≡ suc k → j < k → defeated g ranks j s ≡ false
  pub none : (s j : ℕ) → s < g.states → ranks s ≡ 0 → defeated g ranks j s ≡ false
