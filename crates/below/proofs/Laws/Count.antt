-- How many numbers below a bound pass a test: never more than the bound, more where one more passes, all where there are that many.
-- Assumes nothing.
use Prim.Native.Nat.{ℕ, zero, suc, ◌<◌, ◌≤◌}
use native.Mathlib.Omega.{arith}
use native.Mathlib.Nat.{not-suc-le-zero, le_refl}
use native.Mathlib.Decide.{dec_lt}
use mathlib.Core.Bool.{Bool, true, false, cond, true≢false}
use mathlib.Core.Path.{◌≡◌, refl, sym, ap, ◌∙◌}

pub count : (ℕ → Bool) → ℕ → ℕ
count p zero = zero
count p (suc n) = cond (p n) (suc (count p n)) (count p n)

-- what the number n adds
data Counted (p : ℕ → Bool) (n : ℕ) : Type 0 where
  passes : p n ≡ true → count p (suc n) ≡ suc (count p n) → Counted p n
  fails : p n ≡ false → count p (suc n) ≡ count p n → Counted p n

counted : (p : ℕ → Bool) (n : ℕ) → Counted p n
unfolding count
counted p n = by (p n) refl
  where
    by : (t : Bool) → p n ≡ t → Counted p n
    by true e = passes e (rw e)
    by false e = fails e (rw e)

pub count_most : (p : ℕ → Bool) (n : ℕ) → count p n ≤ n
unfolding count
count_most p zero = le_refl zero
count_most p (suc n) = by (counted p n) (count_most p n)
  where
    by : Counted p n → count p n ≤ n → count p (suc n) ≤ suc n
    by (passes e c) h = omega arith
    by (fails e c) h = omega arith

pub count_full : (p : ℕ → Bool) (n i : ℕ) → n ≤ count p n → i < n → p i ≡ true
count_full p zero i h l = absurd (not-suc-le-zero l)
count_full p (suc n) i h l = by (counted p n) (count_full p n i)
  where
    here : p n ≡ true → ¬ (i < n) → p i ≡ true
    here e m = let same : i ≡ n = omega arith in rw (same, e)

    by : Counted p n → (n ≤ count p n → i < n → p i ≡ true) → p i ≡ true
    by (passes e c) ih = elim (dec_lt i n) [ yes m ↦ ih (omega arith) m | no m ↦ here e m ]
    by (fails e c) ih = absurd (omega (arith, count_most p n))

pub count_mono : (p q : ℕ → Bool) (n : ℕ) → ((i : ℕ) → i < n → p i ≡ true → q i ≡ true) → count p n ≤ count q n
unfolding count
count_mono p q zero h = le_refl zero
count_mono p q (suc n) h = by (counted p n) (counted q n) (count_mono p q n (λ i l. h i (omega arith)))
  where
    by : Counted p n → Counted q n → count p n ≤ count q n → count p (suc n) ≤ count q (suc n)
    by (passes e c) (passes f d) ih = omega arith
    by (passes e c) (fails f d) ih = absurd (true≢false (sym (h n (omega arith) e) ∙ f))
    by (fails e c) (passes f d) ih = omega arith
    by (fails e c) (fails f d) ih = omega arith

pub count_grows : (p q : ℕ → Bool) (n j : ℕ) → ((i : ℕ) → i < n → p i ≡ true → q i ≡ true) → j < n → p j ≡ false → q j ≡ true → count p n < count q n
count_grows p q zero j h l e f = absurd (not-suc-le-zero l)
count_grows p q (suc n) j h l e f = elim (dec_lt j n) [
  | yes m ↦ below (counted p n) (counted q n) (count_grows p q n j (λ i k. h i (omega arith)) m e f)
  | no m ↦ here (omega arith) (counted p n) (counted q n)
]
  where
    below : Counted p n → Counted q n → count p n < count q n → count p (suc n) < count q (suc n)
    below (passes a c) (passes b d) ih = omega arith
    below (passes a c) (fails b d) ih = absurd (true≢false (sym (h n (omega arith) a) ∙ b))
    below (fails a c) (passes b d) ih = omega arith
    below (fails a c) (fails b d) ih = omega arith

    more : count p n ≤ count q n
    more = count_mono p q n (λ i k. h i (omega arith))

    here : j ≡ n → Counted p n → Counted q n → count p (suc n) < count q (suc n)
    here same (passes a c) w = absurd (true≢false (sym a ∙ ap p (sym same) ∙ e))
    here same (fails a c) (passes b d) = omega (arith, more)
    here same (fails a c) (fails b d) = absurd (true≢false (sym f ∙ ap q same ∙ b))
