-- A search that goes through the numbers below n in order: none of those passed passes the test. Every search loop keeps this. Assumes
-- nothing.
use Prim.Native.Nat.{ℕ, ◌+◌, ◌<◌, ◌≤◌}
use native.Mathlib.Omega.{arith}
use native.Mathlib.Decide.{dec_lt}
use native.Mathlib.Nat.{not-suc-le-zero}
use mathlib.Core.Bool.{Bool, true, false}
use mathlib.Core.Path.{◌≡◌, ap, ◌∙◌}
use Rattle.below.specs.Least.{least}
use Rattle.below.proofs.Laws.Least.{least-is, least_none}

pub record Passed (p : ℕ → Bool) (n i : ℕ) : Type 0 where
  pub within : i ≤ n
  pub none : (j : ℕ) → j < i → p j ≡ false

module _ (p : ℕ → Bool) (n : ℕ) where
  pub passed_start : Passed p n 0
  passed_start = record { within = omega arith; none = λ j h. absurd (not-suc-le-zero h) }

  pub passed_next : (i : ℕ) → Passed p n i → i < n → p i ≡ false → Passed p n (i + 1)
  passed_next i passed h e = record { within = omega arith; none = λ j l. elim (dec_lt j i) [ yes a ↦ passed.none j a | no a ↦ here j (omega arith) ] }
    where
      here : (j : ℕ) → j ≡ i → p j ≡ false
      here j q = ap p q ∙ e

  pub passed_found : (i : ℕ) → Passed p n i → i < n → p i ≡ true → i ≡ least p n
  passed_found i passed h e = omega (arith, least-is p n i h e passed.none)

  pub passed_end : (i : ℕ) → Passed p n i → n ≤ i → n ≡ least p n
  passed_end i passed h = omega (arith, least_none p n (λ j l. passed.none j (omega arith)))
