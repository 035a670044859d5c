-- A game (01, "The game"): how many states, readings and controls there are, and a step function. States, readings and controls are the
-- numbers below their counts. Assumes nothing.
use Rattle.std.specs.Prelude.{ℕ, ◌<◌}
use Rattle.step.specs.declared.Stepped.{Stepped}

pub record Game : Type 0 where
  pub states : ℕ
  pub readings : ℕ
  pub controls : ℕ
  pub step : (state reading control : ℕ) → Stepped

-- every step leads to a state, and there is a control to choose
pub record Proper (g : Game) : Type 0 where
  pub leads : (s r k : ℕ) → (g.step s r k).next < g.states
  pub choice : 0 < g.controls
