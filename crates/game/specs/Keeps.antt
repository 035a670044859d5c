-- Keeps (01, "The game"): this control, at this state and reading, gives error 0 and a next state in the set. The only definition of
-- the game that looks at a step; region, reply, rank, attack and check are stated by it. Assumes nothing.
use Rattle.std.specs.Prelude.{ℕ, Bool, false, not, ◌&&◌, ◌≡◌}
use Rattle.below.specs.Least.{any, every}
use Rattle.game.specs.Game.{Game}

-- as a statement, of any set of states
unfoldable pub Keeps : Game → (ℕ → Type 0) → (state reading control : ℕ) → Type 0
Keeps g P s r k = ((g.step s r k).error ≡ false) × P (g.step s r k).next

-- as a test, of a set that has one
unfoldable pub keeps : Game → (ℕ → Bool) → (state reading control : ℕ) → Bool
keeps g set s r k = not (g.step s r k).error && set (g.step s r k).next

-- some control keeps, for this reading
unfoldable pub answered : Game → (ℕ → Bool) → (state reading : ℕ) → Bool
answered g set s r = any (keeps g set s r) g.controls

-- for every reading some control keeps: the reading is known before the control is chosen
unfoldable pub safe : Game → (ℕ → Bool) → (state : ℕ) → Bool
safe g set s = every (λ r. answered g set s r) g.readings
