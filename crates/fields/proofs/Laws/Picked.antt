-- The numbers below a bound that pass a test, each as an element of a list, and what stands among them. Assumes nothing.
use Prim.Native.Nat.{ℕ, zero, suc, ◌<◌}
use native.Mathlib.Decide.{dec_lt, ℕ_discrete}
use native.Mathlib.Omega.{arith}
use mathlib.Core.Bool.{Bool, true, false, cond, ◌&&◌, ◌||◌}
use mathlib.Core.List.{List, [], ◌∷◌, ◌++◌}
use mathlib.Core.Path.{◌≡◌, refl, sym, ap, ◌∙◌}
use lib.Dec.{eqb, ltb}
use borrow.Author.Tests.{lt-ltb, le-ltb, eq-eqb, ne_eqb}
use Rattle.below.specs.Among.{among}
use Rattle.below.proofs.Laws.Among.{among_snoc}
use Rattle.fields.proofs.Laws.Truth.{or-false, and_true, and-false}

module _ {A : Type 0} where
  pub among_append : (q : A → Bool) (xs ys : List A) → among q (xs ++ ys) ≡ (among q xs || among q ys)
  unfolding among
  among_append q [] ys = refl
  among_append q (x ∷ xs) ys = ap (λ (b : Bool). q x || b) (among_append q xs ys) ∙ by (q x)
    where
      by : (a : Bool) → (a || (among q xs || among q ys)) ≡ ((a || among q xs) || among q ys)
      by true = refl
      by false = refl

  module _ (p : ℕ → Bool) (f : ℕ → A) where
    pub picked : ℕ → List A
    picked zero = []
    picked (suc n) = cond (p n) (picked n ++ (f n ∷ [])) (picked n)

    module _ (q : A → Bool) where
      more : (n : ℕ) → among q (picked (suc n)) ≡ (among q (picked n) || (p n && q (f n)))
      unfolding picked
      more n = by (p n)
        where
          by : (b : Bool) → among q (cond b (picked n ++ (f n ∷ [])) (picked n)) ≡ (among q (picked n) || (b && q (f n)))
          by true = among_snoc q (picked n) (f n)
          by false = sym (or-false (among q (picked n)))

      -- a test that no element passes
      pub picked_none : ((j : ℕ) → q (f j) ≡ false) → (n : ℕ) → among q (picked n) ≡ false
      unfolding picked among
      picked_none e zero = refl
      picked_none e (suc n) = more n ∙ rw (picked_none e n, e n) (and-false (p n))

      -- a test that the element of one number passes
      pub picked_one : (i : ℕ) → ((j : ℕ) → q (f j) ≡ eqb j i) → (n : ℕ) → among q (picked n) ≡ (ltb i n && p i)
      unfolding picked among
      picked_one i e zero = rw (le-ltb i 0 (omega arith))
      picked_one i e (suc n) = more n ∙ rw (picked_one i e n, e n) (elim (ℕ_discrete n i)
          [ yes s ↦ here s | no d ↦ elim (dec_lt i n) [ yes l ↦ below d l | no l ↦ above d l ] ])
        where
          here : n ≡ i → ((ltb i n && p i) || (p n && eqb n i)) ≡ (ltb i (suc n) && p i)
          here s = rw (le-ltb i n (omega arith), lt-ltb i (suc n) (omega arith), eq-eqb n i s) (and_true (p n) ∙ ap p s)

          below : (n ≡ i → ⊥) → i < n → ((ltb i n && p i) || (p n && eqb n i)) ≡ (ltb i (suc n) && p i)
          below d l = rw (lt-ltb i n l, lt-ltb i (suc n) (omega arith), ne_eqb n i d, and-false (p n)) (or-false (p i))

          above : (n ≡ i → ⊥) → (i < n → ⊥) → ((ltb i n && p i) || (p n && eqb n i)) ≡ (ltb i (suc n) && p i)
          above d l = rw (le-ltb i n (omega arith), le-ltb i (suc n) (omega arith), ne_eqb n i d) (and-false (p n))
