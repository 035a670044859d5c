-- What some number from one on passes, as a list of those numbers has it. Assumes nothing.
use Prim.Native.Nat.{ℕ, zero, suc, ◌+◌, ◌<◌}
use native.Mathlib.Omega.{arith}
use mathlib.Core.Bool.{Bool, true, false, ◌||◌}
use mathlib.Core.Path.{◌≡◌, refl, sym, ap, ◌∙◌}
use Rattle.std.specs.List.{list_any, range_with_len}
use Rattle.below.specs.Least.{least, any}
use Rattle.below.proofs.Laws.Least.{any_of, any-least, any_holds, any_none, none_any}

module _ (p : ℕ → Bool) where
  pub some_from : (a n : ℕ) → list_any p (range_with_len a n) ≡ any (λ i. p (a + i)) n
  some_from a zero = sym (none_any (λ i. p (a + i)) zero (λ j h. absurd (omega arith)))
  some_from a (suc n) = ap (λ (b : Bool). p a || b) (some_from (a + 1) n) ∙ by (p a) (any later n) refl refl
    where
      later : ℕ → Bool
      later i = p (a + 1 + i)

      all : ℕ → Bool
      all i = p (a + i)

      by : (b d : Bool) → p a ≡ b → any later n ≡ d → (b || d) ≡ any all (suc n)
      by true d e f = sym (any_of all (suc n) zero (omega arith) (ap p (omega arith) ∙ e))
      by false true e f =
          sym (any_of all (suc n) (suc (least later n)) (omega (arith, any-least later n f)) (ap p (omega arith) ∙ any_holds later n f))
      by false false e f = sym (none_any all (suc n) none)
        where
          none : (j : ℕ) → j < suc n → all j ≡ false
          none zero h = ap p (omega arith) ∙ e
          none (suc j) h = ap p (omega arith) ∙ any_none later n j f (omega arith)
