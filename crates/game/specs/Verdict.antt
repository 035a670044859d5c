-- The verdict (01, "The game"; the mission's rule 2): realizable exactly if some set of states holds the reset state and, for each of its
-- states and each reading, some control gives error 0 and a next state in the set. Assumes nothing.
use Rattle.std.specs.Prelude.{ℕ, ◌<◌, Bool, true, not, ◌||◌, ◌≡◌}
use Rattle.below.specs.Least.{every}
use Rattle.game.specs.Game.{Game}
use Rattle.game.specs.Region.{Closed}
use Rattle.game.specs.Rank.{in_region}

-- as a statement
pub record Realizable (g : Game) (is_reset : ℕ → Bool) : Type 1 where
  pub set : ℕ → Type 0
  pub closed : Closed g set
  pub holds_reset : (s : ℕ) → s < g.states → is_reset s ≡ true → set s

-- as a test: every reset state lies in the region
unfoldable pub realizable : Game → (ℕ → Bool) → Bool
realizable g is_reset = every (λ s. not (is_reset s) || in_region g s) g.states
