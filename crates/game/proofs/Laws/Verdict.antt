-- Realizable exactly if some closed set holds every reset state. Assumes nothing.
use Prim.Native.Nat.{ℕ, ◌<◌}
use mathlib.Core.Bool.{Bool, true, false, not, ◌||◌}
use mathlib.Core.Path.{◌≡◌, refl}
use Rattle.below.proofs.Laws.Least.{every_at, every_of}
use Rattle.game.specs.Game.{Game, Proper}
use Rattle.game.specs.Rank.{in_region}
use Rattle.game.specs.Verdict.{Realizable, realizable}
use Rattle.game.proofs.Laws.Region.{region_closed, closed_in_region}

implied : (a b : Bool) → (not a || b) ≡ true → a ≡ true → b ≡ true
implied true b e f = e
implied false b e f = cc

implies : (a b : Bool) → (a ≡ true → b ≡ true) → (not a || b) ≡ true
implies true b h = h refl
implies false b h = refl

-- the reset states of a realizable game lie in its region
pub reset_in_region : (g : Game) (is_reset : ℕ → Bool) → realizable g is_reset ≡ true → (s : ℕ) → s < g.states → is_reset s ≡ true → in_region g s ≡ true
unfolding realizable
reset_in_region g is_reset e s h = implied (is_reset s) (in_region g s) (every_at _ _ s e h)

module _ (g : Game) (proper : Proper g) (is_reset : ℕ → Bool) where
  pub realizable_sound : realizable g is_reset ≡ true → Realizable g is_reset
  realizable_sound e =
      record {
        set = λ s. in_region g s ≡ true;
        closed = region_closed g proper;
        holds_reset = reset_in_region g is_reset e;
      }

  pub realizable_complete : Realizable g is_reset → realizable g is_reset ≡ true
  unfolding realizable
  realizable_complete w = every_of _ _ (λ s h. implies (is_reset s) (in_region g s)
      (λ e. closed_in_region g proper w.set w.closed s h (w.holds_reset s h e)))
