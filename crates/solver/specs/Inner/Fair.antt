-- What the rounds of the solver go by (01, "The game"): a proper game of so many states, no more than a circuit may have. Assumes nothing.
use Rattle.std.specs.Prelude.{ℕ, ◌^◌, ◌≤◌, ◌≡◌}
use Rattle.circuit.specs.Limits.{base}
use Rattle.game.specs.Game.{Game, Proper}

pub record Fair (g : Game) (states : ℕ) : Type 0 where
  pub proper : Proper g
  pub few : g.states ≤ 2 ^ base.latches
  pub all : states ≡ g.states
