-- The replies: in the region each is the least control that keeps; they break no rule of a certificate; and whoever made a table that
-- breaks none, its set lies inside the region. Assumes nothing.
use Prim.Native.Nat.{ℕ, ◌<◌}
use mathlib.Core.Bool.{Bool, true, false, not, ◌&&◌}
use mathlib.Core.Path.{◌≡◌, refl, sym, ap, ◌∙◌}
use lib.Dec.{ltb}
use borrow.Author.Tests.{ltb-true, lt-ltb, not-false}
use Rattle.below.specs.Least.{least}
use Rattle.below.proofs.Laws.Least.{least-before, any-least, any_holds}
use Rattle.bits.proofs.Laws.Bytes.{both_true}
use Rattle.game.specs.Game.{Game, Proper}
use Rattle.game.specs.Keeps.{Keeps, keeps, answered}
use Rattle.game.specs.Rank.{in_region}
use Rattle.game.specs.Region.{Closed}
use Rattle.game.specs.Reply.{reply, reply_broken}
use Rattle.game.proofs.Laws.Keeps.{keeps_true, true_keeps, answers}
use Rattle.game.proofs.Laws.Region.{region_closed, closed_in_region}

-- a reply that breaks no rule, of a state in the set: a control that keeps
pub unbroken_reply : (g : Game) (set : ℕ → Bool) (replies : ℕ → ℕ → ℕ) (s r : ℕ) → reply_broken g set replies s r ≡ false → set s ≡ true
    → (replies s r < g.controls) × Keeps g (λ t. set t ≡ true) s r (replies s r)
unfolding reply_broken
unbroken_reply g set replies s r e h =
    let fine = both_true (ltb (replies s r) g.controls) (keeps g set s r (replies s r))
    (not-false _ (sym (ap (λ (b : Bool). b && not (ltb (replies s r) g.controls && keeps g set s r (replies s r))) h) ∙ e)) in
    (ltb-true _ _ fine.0, keeps_true g set s r (replies s r) fine.1)

pub reply_unbroken : (g : Game) (set : ℕ → Bool) (replies : ℕ → ℕ → ℕ) (s r : ℕ)
    → (set s ≡ true → (replies s r < g.controls) × Keeps g (λ t. set t ≡ true) s r (replies s r)) → reply_broken g set replies s r ≡ false
unfolding reply_broken
reply_unbroken g set replies s r h = by (set s) refl
  where
    by : (b : Bool) → set s ≡ b → (set s && not (ltb (replies s r) g.controls && keeps g set s r (replies s r))) ≡ false
    by true e = let (below, keep) = h e in rw (e, lt-ltb (replies s r) g.controls below, true_keeps g set s r (replies s r) keep)
    by false e = rw e

-- a table that breaks no rule has a closed set, so its set lies inside the region
pub unbroken_closed : (g : Game) (set : ℕ → Bool) (replies : ℕ → ℕ → ℕ)
    → ((s r : ℕ) → s < g.states → r < g.readings → reply_broken g set replies s r ≡ false) → Closed g (λ s. set s ≡ true)
unfolding Closed
unbroken_closed g set replies rule s r h e l = let (below, keep) = unbroken_reply g set replies s r (rule s r h l) e in (replies s r, below, keep)

pub unbroken_in_region : (g : Game) → Proper g → (set : ℕ → Bool) (replies : ℕ → ℕ → ℕ)
    → ((s r : ℕ) → s < g.states → r < g.readings → reply_broken g set replies s r ≡ false) → (s : ℕ) → s < g.states → set s ≡ true → in_region g s ≡ true
unbroken_in_region g proper set replies rule = closed_in_region g proper (λ s. set s ≡ true) (unbroken_closed g set replies rule)

pub reply_outside : (g : Game) (s r : ℕ) → in_region g s ≡ false → reply g s r ≡ 0
unfolding reply
reply_outside g s r e = rw e

reply-inside : (g : Game) (s r : ℕ) → in_region g s ≡ true → reply g s r ≡ least (keeps g (in_region g) s r) g.controls
unfolding reply
reply-inside g s r e = rw e

module _ (g : Game) (proper : Proper g) (s r : ℕ) (state : s < g.states) (reading : r < g.readings) (inside : in_region g s ≡ true) where
  region_answered : answered g (in_region g) s r ≡ true
  unfolding Closed
  region_answered = let (k, below, keep) = region_closed g proper s r state inside reading in answers g (in_region g) s r k below keep

  pub reply-is_control : reply g s r < g.controls
  unfolding answered
  reply-is_control = rw (reply-inside g s r inside) (any-least (keeps g (in_region g) s r) g.controls region_answered)

  pub reply-keeps : Keeps g (λ t. in_region g t ≡ true) s r (reply g s r)
  unfolding answered
  reply-keeps = rw (reply-inside g s r inside) (keeps_true g (in_region g) s r _ (any_holds (keeps g (in_region g) s r) g.controls region_answered))

  pub reply-least : (k : ℕ) → k < reply g s r → keeps g (in_region g) s r k ≡ false
  reply-least k h = least-before (keeps g (in_region g) s r) g.controls k (rw (reply-inside g s r inside) at h)

-- our own replies break no rule
pub replies_unbroken : (g : Game) → Proper g → (s r : ℕ) → s < g.states → r < g.readings → reply_broken g (in_region g) (reply g) s r ≡ false
replies_unbroken g proper s r h l = reply_unbroken g (in_region g) (reply g) s r (λ e. (reply-is_control g proper s r h l e, reply-keeps g proper s r h l e))
