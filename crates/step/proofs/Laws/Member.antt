-- What holds of the members of lists one behind the other, and of the numbers that name the elements of a list. Assumes nothing.
use Prim.Native.Nat.{ℕ}
use mathlib.Core.Bool.{true, false, ◌||◌, true≢false}
use mathlib.Core.List.{List, [], ◌∷◌, ◌++◌, map}
use mathlib.Core.Logic.{◌⊎◌, inl, inr}
use mathlib.Core.Path.{◌≡◌, refl, sym, ap, ◌∙◌}
use lib.Dec.{eqb}
use borrow.Author.Tests.{eqb-true, eq-eqb}
use Rattle.std.proofs.lemmas.Bool.{or_right, or_cases}
use Rattle.below.specs.Among.{among, member}
use Rattle.below.proofs.Laws.Among.{member_snoc}

pub member_left : (v : ℕ) (vs ws : List ℕ) → member v vs ≡ true → member v (vs ++ ws) ≡ true
unfolding member among
member_left v [] ws e = absurd (true≢false (sym e))
member_left v (u ∷ vs) ws e = by (or_cases (eqb v u) (member v vs) e) (member_left v vs ws)
  where
    by : (eqb v u ≡ true) ⊎ (member v vs ≡ true) → (member v vs ≡ true → member v (vs ++ ws) ≡ true) → (eqb v u || member v (vs ++ ws)) ≡ true
    by (inl a) ih = rw a
    by (inr b) ih = or_right (eqb v u) (member v (vs ++ ws)) (ih b)

pub member_right : (v : ℕ) (vs ws : List ℕ) → member v ws ≡ true → member v (vs ++ ws) ≡ true
unfolding member among
member_right v [] ws e = e
member_right v (u ∷ vs) ws e = or_right (eqb v u) (member v (vs ++ ws)) (member_right v vs ws e)

pub member_cases : (v : ℕ) (vs ws : List ℕ) → member v (vs ++ ws) ≡ true → (member v vs ≡ true) ⊎ (member v ws ≡ true)
unfolding member among
member_cases v [] ws e = inr e
member_cases v (u ∷ vs) ws e = by (or_cases (eqb v u) (member v (vs ++ ws)) e) (member_cases v vs ws)
  where
    later : (member v vs ≡ true) ⊎ (member v ws ≡ true) → ((eqb v u || member v vs) ≡ true) ⊎ (member v ws ≡ true)
    later (inl m) = inl (or_right (eqb v u) (member v vs) m)
    later (inr m) = inr m

    by :
        (eqb v u ≡ true) ⊎ (member v (vs ++ ws) ≡ true) → (member v (vs ++ ws) ≡ true → (member v vs ≡ true) ⊎ (member v ws ≡ true)) →
        ((eqb v u || member v vs) ≡ true) ⊎ (member v ws ≡ true)
    by (inl a) ih = inl (rw a)
    by (inr b) ih = later (ih b)

pub member_last : (v : ℕ) (vs : List ℕ) → member v (vs ++ (v ∷ [])) ≡ true
member_last v vs = member_snoc v vs v ∙ or_right (member v vs) (eqb v v) (eq-eqb v v refl)

pub member_one : (u v : ℕ) → member u (v ∷ []) ≡ true → u ≡ v
unfolding member among
member_one u v e = by (or_cases (eqb u v) false e)
  where
    by : (eqb u v ≡ true) ⊎ (false ≡ true) → u ≡ v
    by (inl a) = eqb-true u v a
    by (inr b) = absurd (true≢false (sym b))

-- an element of a list that has this name, between those above it and those below
pub record Named {A : Type 0} (name : A → ℕ) (xs : List A) (v : ℕ) : Type 0 where
  pub above : List A
  pub below : List A
  pub it : A
  pub stands : xs ≡ above ++ (it ∷ below)
  pub is : name it ≡ v

module _ {A : Type 0} (name : A → ℕ) where
  pub member-named : (xs : List A) (v : ℕ) → member v (map name xs) ≡ true → Named name xs v
  unfolding member among
  member-named [] v e = absurd (true≢false (sym e))
  member-named (x ∷ xs) v e = by (or_cases (eqb v (name x)) (member v (map name xs)) e) (member-named xs v)
    where
      behind : Named name xs v → Named name (x ∷ xs) v
      behind n = record { above = x ∷ n.above; below = n.below; it = n.it; stands = ap (λ (l : List A). x ∷ l) n.stands; is = n.is }

      by : (eqb v (name x) ≡ true) ⊎ (member v (map name xs) ≡ true) → (member v (map name xs) ≡ true → Named name xs v) → Named name (x ∷ xs) v
      by (inl a) ih = record { above = []; below = xs; it = x; stands = refl; is = sym (eqb-true v (name x) a) }
      by (inr b) ih = behind (ih b)

  pub named-member : (above below : List A) (x : A) → member (name x) (map name (above ++ (x ∷ below))) ≡ true
  unfolding member among
  named-member [] below x = rw (eq-eqb (name x) (name x) refl)
  named-member (y ∷ above) below x =
      or_right (eqb (name x) (name y)) (member (name x) (map name (above ++ (x ∷ below)))) (named-member above below x)
