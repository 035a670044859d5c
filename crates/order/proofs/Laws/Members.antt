-- Members of a list to which one is put at the end; members of a front, by their places. Assumes nothing.
use Prim.Native.Nat.{ℕ, zero, suc, ◌<◌}
use native.Mathlib.Omega.{arith}
use native.Mathlib.Nat.{not-suc-le-zero}
use mathlib.Core.Bool.{Bool, true, false, ◌||◌, true≢false}
use mathlib.Core.List.{List, [], ◌∷◌, ◌++◌}
use mathlib.Core.Logic.{◌⊎◌, inl, inr}
use mathlib.Core.Path.{◌≡◌, refl, sym, ap, ◌∙◌}
use lib.Dec.{eqb}
use lib.ListN.{length, get_or, take}
use borrow.Author.Tests.{eqb-true, eqb-false, eq-eqb, ne_eqb}
use Rattle.below.specs.Among.{among, member}
use Rattle.below.proofs.Laws.Among.{member_snoc}

module _ (l : List ℕ) (i j : ℕ) where
  pub put_cases : member j (l ++ (i ∷ [])) ≡ true → (member j l ≡ true) ⊎ (j ≡ i)
  put_cases e = by (member j l) (eqb j i) refl refl (sym (member_snoc j l i) ∙ e)
    where
      by : (a b : Bool) → member j l ≡ a → eqb j i ≡ b → (member j l || eqb j i) ≡ true → (member j l ≡ true) ⊎ (j ≡ i)
      by true b f g t = inl f
      by false true f g t = inr (eqb-true j i g)
      by false false f g t = absurd (true≢false (sym t ∙ (rw (f, g))))

  pub put_missing : member j (l ++ (i ∷ [])) ≡ false → (member j l ≡ false) × ¬ (j ≡ i)
  put_missing e = by (member j l) (eqb j i) refl refl (sym (member_snoc j l i) ∙ e)
    where
      by : (a b : Bool) → member j l ≡ a → eqb j i ≡ b → (member j l || eqb j i) ≡ false → (member j l ≡ false) × ¬ (j ≡ i)
      by true b f g t = absurd (true≢false (sym (ap (λ (x : Bool). x || eqb j i) f) ∙ t))
      by false true f g t = absurd (true≢false (sym (rw (f, g)) ∙ t))
      by false false f g t = (f, eqb-false j i g)

  pub put_keeps : member j l ≡ true → member j (l ++ (i ∷ [])) ≡ true
  put_keeps e = member_snoc j l i ∙ ap (λ (x : Bool). x || eqb j i) e

  pub put_other : member j l ≡ false → ¬ (j ≡ i) → member j (l ++ (i ∷ [])) ≡ false
  put_other e d = member_snoc j l i ∙ rw (e, ne_eqb j i d)

-- by places: a place of the front holds the member
pub member-place : (l : List ℕ) (k j d : ℕ) → member j (take k l) ≡ true → (m : ℕ) × (m < k) × (get_or l m d ≡ j)
unfolding member among
member-place [] zero j d e = absurd (true≢false (sym e))
member-place [] (suc k) j d e = absurd (true≢false (sym e))
member-place (x ∷ xs) zero j d e = absurd (true≢false (sym e))
member-place (x ∷ xs) (suc k) j d e = by (eqb j x) refl e (member-place xs k j d)
  where
    later : (m : ℕ) × (m < k) × (get_or xs m d ≡ j) → (m : ℕ) × (m < suc k) × (get_or (x ∷ xs) m d ≡ j)
    later t = (suc t.0, omega (arith, t.1), t.2)

    by : (b : Bool) → eqb j x ≡ b → (b || member j (take k xs)) ≡ true → (member j (take k xs) ≡ true → (m : ℕ) × (m < k) × (get_or xs m d ≡ j))
        → (m : ℕ) × (m < suc k) × (get_or (x ∷ xs) m d ≡ j)
    by true f t ih = (zero, omega arith, sym (eqb-true j x f))
    by false f t ih = later (ih t)

pub place-member : (l : List ℕ) (k m j d : ℕ) → m < k → m < length l → get_or l m d ≡ j → member j (take k l) ≡ true
unfolding member among
place-member [] k m j d h f e = absurd (not-suc-le-zero f)
place-member (x ∷ xs) zero m j d h f e = absurd (not-suc-le-zero h)
place-member (x ∷ xs) (suc k) zero j d h f e = ap (λ (b : Bool). b || member j (take k xs)) (eq-eqb j x (sym e))
place-member (x ∷ xs) (suc k) (suc m) j d h f e = by (eqb j x) (place-member xs k m j d (omega arith) (omega arith) e)
  where
    by : (b : Bool) → member j (take k xs) ≡ true → (b || member j (take k xs)) ≡ true
    by true t = refl
    by false t = t

pub member_dec : (l : List ℕ) (j : ℕ) → (member j l ≡ true) ⊎ (member j l ≡ false)
member_dec l j = by (member j l) refl
  where
    by : (b : Bool) → member j l ≡ b → (member j l ≡ true) ⊎ (member j l ≡ false)
    by true e = inl e
    by false e = inr e
