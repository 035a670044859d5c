-- The region (01, "The game"): the largest set of states such that each state in it has, for every reading, a control with error 0 and
-- next state in the set. Assumes nothing.
use Rattle.std.specs.Prelude.{ℕ, ◌<◌}
use Rattle.game.specs.Game.{Game}
use Rattle.game.specs.Keeps.{Keeps}

-- each state of the set has, for every reading, a control that keeps
unfoldable pub Closed : Game → (ℕ → Type 0) → Type 0
Closed g P =
    (s r : ℕ) → s < g.states → P s → r < g.readings → (k : ℕ) × (k < g.controls) × Keeps g P s r k

-- a closed set that holds every closed set
pub record IsRegion (g : Game) (P : ℕ → Type 0) : Type 1 where
  pub closed : Closed g P
  pub largest : (Q : ℕ → Type 0) → Closed g Q → (s : ℕ) → s < g.states → Q s → P s
