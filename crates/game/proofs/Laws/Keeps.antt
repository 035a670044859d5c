-- The test of keeping says what the statement says; so do answered, safe, defeats and defeated. Assumes nothing.
use Prim.Native.Nat.{ℕ, ◌<◌}
use mathlib.Core.Bool.{Bool, true, false, not, ◌&&◌}
use mathlib.Core.Path.{◌≡◌, refl, ap, ap₂}
use borrow.Author.Tests.{not-true}
use Rattle.below.specs.Least.{least, any, every}
use Rattle.below.proofs.Laws.Least.{any_of, any-least, any_holds, any_none, any_same, every_at, every_of}
use Rattle.bits.proofs.Laws.Bytes.{both_true}
use Rattle.game.specs.Game.{Game}
use Rattle.game.specs.Keeps.{Keeps, keeps, answered, safe}
use Rattle.game.specs.Rank.{defeats, defeated}

module _ (g : Game) (set : ℕ → Bool) (s r k : ℕ) where
  pub keeps_true : keeps g set s r k ≡ true → Keeps g (λ t. set t ≡ true) s r k
  unfolding keeps Keeps
  keeps_true e = let (error, next) = both_true (not (g.step s r k).error) (set (g.step s r k).next) e in (not-true _ error, next)

  pub true_keeps : Keeps g (λ t. set t ≡ true) s r k → keeps g set s r k ≡ true
  unfolding keeps Keeps
  true_keeps h = ap₂ (λ (a b : Bool). not a && b) h.0 h.1

module _ (g : Game) where
  -- keeping looks only at where the steps of this state lead
  pub keeps_same : (set other : ℕ → Bool) (s r k : ℕ) → set (g.step s r k).next ≡ other (g.step s r k).next → keeps g set s r k ≡ keeps g other s r k
  unfolding keeps
  keeps_same set other s r k e = ap (λ (b : Bool). not (g.step s r k).error && b) e

  pub answered_same : (set other : ℕ → Bool) (s r : ℕ) → ((k : ℕ) → set (g.step s r k).next ≡ other (g.step s r k).next)
      → answered g set s r ≡ answered g other s r
  unfolding answered
  answered_same set other s r e = any_same (keeps g set s r) (keeps g other s r) g.controls (λ k h. keeps_same set other s r k (e k))

  -- a set that answers, with the control that does
  pub answered-by : (set : ℕ → Bool) (s r : ℕ) → answered g set s r ≡ true → (k : ℕ) × (k < g.controls) × Keeps g (λ t. set t ≡ true) s r k
  unfolding answered
  answered-by set s r e = (least (keeps g set s r) g.controls, any-least _ _ e, keeps_true g set s r _ (any_holds _ _ e))

  pub answers : (set : ℕ → Bool) (s r k : ℕ) → k < g.controls → Keeps g (λ t. set t ≡ true) s r k → answered g set s r ≡ true
  unfolding answered
  answers set s r k h e = any_of (keeps g set s r) g.controls k h (true_keeps g set s r k e)

  pub unanswered : (set : ℕ → Bool) (s r k : ℕ) → answered g set s r ≡ false → k < g.controls → keeps g set s r k ≡ false
  unfolding answered
  unanswered set s r k e h = any_none (keeps g set s r) g.controls k e h

  pub safe_at : (set : ℕ → Bool) (s r : ℕ) → safe g set s ≡ true → r < g.readings → answered g set s r ≡ true
  unfolding safe
  safe_at set s r e h = every_at _ _ r e h

  pub safe_of : (set : ℕ → Bool) (s : ℕ) → ((r : ℕ) → r < g.readings → answered g set s r ≡ true) → safe g set s ≡ true
  unfolding safe
  safe_of set s h = every_of _ _ h

  -- defeated: some reading defeats
  pub defeated-by : (ranks : ℕ → ℕ) (k s : ℕ) → defeated g ranks k s ≡ any (defeats g ranks k s) g.readings
  unfolding defeated safe every defeats
  defeated-by ranks k s = not-not _
    where
      not-not : (b : Bool) → not (not b) ≡ b
      not-not true = refl
      not-not false = refl
