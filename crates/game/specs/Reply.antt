-- Reply (01, "The game"): for a state of the region and a reading, the least control that keeps; outside the region 0. And what the
-- replies of a certificate must do (01, "The certificate"). Assumes nothing.
use Rattle.std.specs.Prelude.{ℕ, Bool, cond, not, ◌&&◌, ltb}
use Rattle.below.specs.Least.{least}
use Rattle.game.specs.Game.{Game}
use Rattle.game.specs.Keeps.{keeps}
use Rattle.game.specs.Rank.{in_region}

unfoldable pub reply : Game → (state reading : ℕ) → ℕ
reply g s r = cond (in_region g s) (least (keeps g (in_region g) s r) g.controls) 0

-- a state of a set whose reply is no control, or doesn't keep
unfoldable pub reply_broken : Game → (ℕ → Bool) → (ℕ → ℕ → ℕ) → (state reading : ℕ) → Bool
reply_broken g set replies s r = set s && not (ltb (replies s r) g.controls && keeps g set s r (replies s r))
