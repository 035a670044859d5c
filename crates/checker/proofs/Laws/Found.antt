-- The lowest place that passes a test, as the code answers it. Assumes nothing.
use Prim.Native.Nat.{ℕ, ◌+◌, ◌<◌, ◌≤◌}
use native.Mathlib.Decide.{dec_lt}
use native.Mathlib.Omega.{arith}
use mathlib.Core.Bool.{Bool, true, false, cond}
use mathlib.Core.Path.{◌≡◌, refl, sym, ap, ◌∙◌}
use Rattle.std.specs.Prelude.{Option, Some, None, MatchOption}
use Rattle.below.specs.Least.{least, any}
use Rattle.below.proofs.Laws.Least.{any_of, none_any, least-is}
use Rattle.checker.specs.Inner.Faults.{lowest}

-- none in front of a place passes
pub record Behind (p : ℕ → Bool) (i : ℕ) : Type 0 where
  pub none : (j : ℕ) → j < i → p j ≡ false

module _ (p : ℕ → Bool) where
  pub behind_next : (i k : ℕ) → Behind p i → p i ≡ false → k ≡ i + 1 → Behind p k
  behind_next i k behind e f = record { none = λ j h. elim (dec_lt j i) [ yes a ↦ behind.none j a | no a ↦ here j (omega arith) ] }
    where
      here : (j : ℕ) → j ≡ i → p j ≡ false
      here j q = ap p q ∙ e

module _ (p : ℕ → Bool) (n : ℕ) where
  pub found_lowest : (i : ℕ) → i < n → p i ≡ true → ((j : ℕ) → j < i → p j ≡ false) → Some i ≡ lowest p n
  found_lowest i h e none = sym (rw (any_of p n i h e, least-is p n i h e none))

  pub none_lowest : ((j : ℕ) → j < n → p j ≡ false) → None ≡ lowest p n
  none_lowest none = sym (rw (none_any p n none))

  -- as a search over a range says it
  pub lowest_found :
      (end : ℕ) → end ≡ n → (r : Option ℕ)
      → MatchOption r ((k : ℕ) → 0 ≤ k → k < end → p k ≡ false) (λ i. (0 ≤ i) × (i < end) × (p i ≡ true) × ((k : ℕ) → 0 ≤ k → k < i → p k ≡ false))
      → r ≡ lowest p n
  lowest_found end e None w = none_lowest (λ j h. w j (omega arith) (omega arith))
  lowest_found end e (Some i) w = found_lowest i (omega (arith, w.1)) w.2 (λ j h. w.3 j (omega arith) h)

  -- and back
  pub found_place : (place : ℕ) → Some place ≡ lowest p n → (any p n ≡ true) × (place ≡ least p n)
  found_place place e = by (any p n) refl e
    where
      by : (b : Bool) → any p n ≡ b → Some place ≡ cond b (Some (least p n)) None → (any p n ≡ true) × (place ≡ least p n)
      by true f e = (f, cc)
      by false f e = cc

  pub no_place : None ≡ lowest p n → any p n ≡ false
  no_place e = by (any p n) refl e
    where
      by : (b : Bool) → any p n ≡ b → None ≡ cond b (Some (least p n)) None → any p n ≡ false
      by true f e = cc
      by false f e = f
