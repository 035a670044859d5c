-- What holds of least, any and every. Assumes nothing.
use Prim.Native.Nat.{ℕ, zero, suc, ◌<◌, ◌≤◌}
use native.Mathlib.Omega.{arith}
use native.Mathlib.Nat.{not-suc-le-zero, le_refl}
use native.Mathlib.Decide.{dec_lt}
use mathlib.Core.Bool.{Bool, true, false, cond, not, true≢false}
use mathlib.Core.Path.{◌≡◌, refl, sym, ap, ◌∙◌, subst}
use lib.Dec.{ltb}
use borrow.Author.Tests.{ltb-true, ltb-false, lt-ltb, le-ltb, not-true, not-false}
use Rattle.below.specs.Least.{least, any, every}

least_grows : (t u : Bool) (i n : ℕ) → i ≤ n → cond t i (cond u n (suc n)) ≤ suc n
least_grows true u i n h = omega arith
least_grows false true i n h = omega arith
least_grows false false i n h = omega arith

pub least_le : (p : ℕ → Bool) (n : ℕ) → least p n ≤ n
unfolding least
least_le p zero = le_refl zero
least_le p (suc n) = least_grows (ltb (least p n) n) (p n) (least p n) n (least_le p n)

-- how the search goes on from n to suc n: one was found before, n passes, or none does
data Went (p : ℕ → Bool) (n : ℕ) : Type 0 where
  found : least p n < n → least p (suc n) ≡ least p n → Went p n
  here : least p n ≡ n → p n ≡ true → least p (suc n) ≡ n → Went p n
  past : least p n ≡ n → p n ≡ false → least p (suc n) ≡ suc n → Went p n

went : (p : ℕ → Bool) (n : ℕ) → Went p n
unfolding least
went p n = by (ltb (least p n) n) (p n) refl refl
  where
    by : (t u : Bool) → ltb (least p n) n ≡ t → p n ≡ u → Went p n
    by true u e f = found (ltb-true _ _ e) (rw e)
    by false true e f = here (omega (arith, least_le p n, ltb-false (least p n) n e)) f (rw (e, f))
    by false false e f = past (omega (arith, least_le p n, ltb-false (least p n) n e)) f (rw (e, f))

pub least_holds : (p : ℕ → Bool) (n : ℕ) → least p n < n → p (least p n) ≡ true
least_holds p zero h = absurd (not-suc-le-zero h)
least_holds p (suc n) h = by (went p n) (least_holds p n)
  where
    by : Went p n → (least p n < n → p (least p n) ≡ true) → p (least p (suc n)) ≡ true
    by (found l e) ih = rw e (ih l)
    by (here l f e) ih = rw (e, f)
    by (past l f e) ih = absurd (omega arith)

pub least-before : (p : ℕ → Bool) (n i : ℕ) → i < least p n → p i ≡ false
least-before p zero i h = absurd (not-suc-le-zero (subst (λ (m : ℕ). i < m) zero_least h))
  where
    zero_least : least p zero ≡ zero
    zero_least = omega (arith, least_le p zero)
least-before p (suc n) i h = by (went p n) (least-before p n i)
  where
    same : i ≡ n → p n ≡ false → p i ≡ false
    same e f = rw (e, f)

    up : least p n ≡ n → p n ≡ false → (i < least p n → p i ≡ false) → i < suc n → p i ≡ false
    up l f ih k = elim (dec_lt i n) [ yes a ↦ ih (omega arith) | no b ↦ same (omega arith) f ]

    by : Went p n → (i < least p n → p i ≡ false) → p i ≡ false
    by (found l e) ih = ih (omega arith)
    by (here l f e) ih = ih (omega arith)
    by (past l f e) ih = up l f ih (omega arith)

-- the one that passes while none before it does is the least
pub least-is : (p : ℕ → Bool) (n i : ℕ) → i < n → p i ≡ true → ((j : ℕ) → j < i → p j ≡ false) → least p n ≡ i
least-is p n i h t b = elim (dec_lt (least p n) i) [
  | yes a ↦ absurd (low a)
  | no a ↦ elim (dec_lt i (least p n)) [ yes c ↦ absurd (high c) | no c ↦ omega arith ]
]
  where
    low : least p n < i → ⊥
    low a = true≢false (sym (least_holds p n (omega arith)) ∙ b (least p n) a)

    high : i < least p n → ⊥
    high c = true≢false (sym t ∙ least-before p n i c)

-- where none below n passes, the answer is n
pub least_none : (p : ℕ → Bool) (n : ℕ) → ((j : ℕ) → j < n → p j ≡ false) → least p n ≡ n
least_none p n b = elim (dec_lt (least p n) n) [ yes a ↦ absurd (true≢false (sym (least_holds p n a) ∙ b (least p n) a)) | no a ↦ omega (arith, least_le p n) ]

pub least_same : (p q : ℕ → Bool) (n : ℕ) → ((i : ℕ) → i < n → p i ≡ q i) → least p n ≡ least q n
least_same p q n e = elim (dec_lt (least p n) n) [ yes a ↦ sym (least-is q n (least p n) a (hit a) (miss a)) | no a ↦ none (omega (arith, least_le p n)) ]
  where
    hit : least p n < n → q (least p n) ≡ true
    hit a = sym (e (least p n) a) ∙ least_holds p n a

    miss : least p n < n → (j : ℕ) → j < least p n → q j ≡ false
    miss a j h = sym (e j (omega arith)) ∙ least-before p n j h

    none : least p n ≡ n → least p n ≡ least q n
    none l = l ∙ sym (least_none q n (λ j h. sym (e j h) ∙ least-before p n j (omega arith)))

pub any_of : (p : ℕ → Bool) (n i : ℕ) → i < n → p i ≡ true → any p n ≡ true
unfolding any
any_of p n i h t = elim (dec_lt (least p n) n) [ yes a ↦ lt-ltb _ _ a | no a ↦ absurd (true≢false (sym t ∙ least-before p n i (omega (arith, least_le p n)))) ]

pub any-least : (p : ℕ → Bool) (n : ℕ) → any p n ≡ true → least p n < n
unfolding any
any-least p n t = ltb-true _ _ t

pub any_holds : (p : ℕ → Bool) (n : ℕ) → any p n ≡ true → p (least p n) ≡ true
any_holds p n t = least_holds p n (any-least p n t)

pub any_none : (p : ℕ → Bool) (n i : ℕ) → any p n ≡ false → i < n → p i ≡ false
unfolding any
any_none p n i t h = least-before p n i (omega (arith, ltb-false (least p n) n t))

pub none_any : (p : ℕ → Bool) (n : ℕ) → ((j : ℕ) → j < n → p j ≡ false) → any p n ≡ false
unfolding any
none_any p n b = le-ltb (least p n) n (omega (arith, least_none p n b))

pub any_same : (p q : ℕ → Bool) (n : ℕ) → ((i : ℕ) → i < n → p i ≡ q i) → any p n ≡ any q n
unfolding any
any_same p q n e = ap (λ (m : ℕ). ltb m n) (least_same p q n e)

pub every_at : (p : ℕ → Bool) (n i : ℕ) → every p n ≡ true → i < n → p i ≡ true
unfolding every
every_at p n i t h = not-false _ (any_none (λ j. not (p j)) n i (not-true _ t) h)

pub every_of : (p : ℕ → Bool) (n : ℕ) → ((i : ℕ) → i < n → p i ≡ true) → every p n ≡ true
unfolding every
every_of p n b = ap not (none_any (λ j. not (p j)) n (λ j h. ap not (b j h)))

-- where not each passes, the least that doesn't is below n and doesn't
pub every-fails : (p : ℕ → Bool) (n : ℕ) → every p n ≡ false → (i : ℕ) × (i < n) × (p i ≡ false)
unfolding every
every-fails p n t = (least (λ j. not (p j)) n, any-least (λ j. not (p j)) n (not-false _ t), not-true _ (any_holds (λ j. not (p j)) n (not-false _ t)))

pub every_same : (p q : ℕ → Bool) (n : ℕ) → ((i : ℕ) → i < n → p i ≡ q i) → every p n ≡ every q n
unfolding every
every_same p q n e = ap not (any_same (λ j. not (p j)) (λ j. not (q j)) n (λ i h. ap not (e i h)))
