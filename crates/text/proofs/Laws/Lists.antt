-- Each element, each pair, and standing in a list: what the tests of the reader say in these words. Assumes nothing.
use Prim.Native.Nat.{ℕ, zero, suc, ◌<◌}
use native.Mathlib.Omega.{arith}
use native.Mathlib.Nat.{not-suc-le-zero, le_of_suc-le-suc}
use mathlib.Core.Bool.{Bool, true, false, ◌||◌, true≢false}
use mathlib.Core.List.Memᴰ
use mathlib.Core.List.{
  List,
  [],
  ◌∷◌,
  ◌++◌,
  map,
  append-nil,
  append_assoc,
  Memᴰ,
}
use mathlib.Core.Logic.{◌⊎◌, inl, inr, ◌≢◌}
use mathlib.Core.Path.{◌≡◌, refl, sym, ap, subst}
use lib.Dec.{eqb}
use lib.ListN.{length, get_or}
use borrow.Author.Tests.{eqb-true, eqb-false, eq-eqb, ne_eqb}
use Rattle.below.specs.Among.{among, member}
use Rattle.text.specs.InList.{All, Pairs, In}

pub neither : (a b : Bool) → (a || b) ≡ false → (a ≡ false) × (b ≡ false)
neither true b e = (e, cc)
neither false b e = (refl, e)

pub neither_of : (a b : Bool) → a ≡ false → b ≡ false → (a || b) ≡ false
neither_of a b e f = rw (e, f)

pub either : (a b : Bool) → (a || b) ≡ true → (a ≡ true) ⊎ (b ≡ true)
either true b e = inl refl
either false b e = inr e

module _ {A : Type 0} where
  pub all_append : (P : A → Type 0) (xs ys : List A) → All P xs → All P ys → All P (xs ++ ys)
  all_append P [] ys a b = b
  all_append P (x ∷ xs) ys a b = (a.0, all_append P xs ys a.1 b)

  pub all_left : (P : A → Type 0) (xs ys : List A) → All P (xs ++ ys) → All P xs
  all_left P [] ys a = tt
  all_left P (x ∷ xs) ys a = (a.0, all_left P xs ys a.1)

  pub all_right : (P : A → Type 0) (xs ys : List A) → All P (xs ++ ys) → All P ys
  all_right P [] ys a = a
  all_right P (x ∷ xs) ys a = all_right P xs ys a.1

  pub all_weaker : (P Q : A → Type 0) → ((x : A) → P x → Q x) → (xs : List A) → All P xs → All Q xs
  all_weaker P Q w [] a = tt
  all_weaker P Q w (x ∷ xs) a = (w x a.0, all_weaker P Q w xs a.1)

  pub all_map : {B : Type 0} (P : B → Type 0) (g : A → B) (xs : List A) → All (λ x. P (g x)) xs → All P (map g xs)
  all_map P g [] a = tt
  all_map P g (x ∷ xs) a = (a.0, all_map P g xs a.1)

  pub map_all : {B : Type 0} (P : B → Type 0) (g : A → B) (xs : List A) → All P (map g xs) → All (λ x. P (g x)) xs
  map_all P g [] a = tt
  map_all P g (x ∷ xs) a = (a.0, map_all P g xs a.1)

  -- each element of the second list with each that stands before it, those seen among them
  abbrev pub Fresh : (A → A → Type 0) → List A → List A → Type 0
  Fresh R seen [] = Unit {0}
  Fresh R seen (x ∷ xs) = All (λ y. R y x) seen × Fresh R (seen ++ (x ∷ [])) xs

  pub pairs_left : (R : A → A → Type 0) (xs ys : List A) → Pairs R (xs ++ ys) → Pairs R xs
  pairs_left R [] ys p = tt
  pairs_left R (x ∷ xs) ys p = (all_left (R x) xs ys p.0, pairs_left R xs ys p.1)

  before_it : (R : A → A → Type 0) (seen : List A) (x : A) (xs : List A) → Pairs R (seen ++ (x ∷ xs)) → All (λ y. R y x) seen
  before_it R [] x xs p = tt
  before_it R (y ∷ seen) x xs p = ((all_right (R y) seen (x ∷ xs) p.0).0, before_it R seen x xs p.1)

  pub pairs_fresh : (R : A → A → Type 0) (seen xs : List A) → Pairs R (seen ++ xs) → Fresh R seen xs
  pairs_fresh R seen [] p = tt
  pairs_fresh R seen (x ∷ xs) p =
      (before_it R seen x xs p, pairs_fresh R (seen ++ (x ∷ [])) xs (subst (Pairs R) (sym (append_assoc seen (x ∷ []) xs)) p))

  one_behind : (R : A → A → Type 0) (seen : List A) (x : A) → Pairs R seen → All (λ y. R y x) seen → Pairs R (seen ++ (x ∷ []))
  one_behind R [] x p a = (tt, tt)
  one_behind R (y ∷ seen) x p a = (all_append (R y) seen (x ∷ []) p.0 (a.0, tt), one_behind R seen x p.1 a.1)

  pub fresh_pairs : (R : A → A → Type 0) (seen xs : List A) → Pairs R seen → Fresh R seen xs → Pairs R (seen ++ xs)
  fresh_pairs R seen [] p f = subst (Pairs R) (sym (append-nil seen)) p
  fresh_pairs R seen (x ∷ xs) p f =
      subst (Pairs R) (append_assoc seen (x ∷ []) xs) (fresh_pairs R (seen ++ (x ∷ [])) xs (one_behind R seen x p f.0) f.1)

  -- standing in a list, by places
  pub in_at : (d : A) (xs : List A) (i : ℕ) → i < length xs → In xs (get_or xs i d)
  in_at d [] i h = absurd (not-suc-le-zero h)
  in_at d (x ∷ xs) zero h = inl refl
  in_at d (x ∷ xs) (suc i) h = inr (in_at d xs i (le_of_suc-le-suc h))

  pub at_in : (d : A) (xs : List A) (a : A) → In xs a → (i : ℕ) × (i < length xs) × (get_or xs i d ≡ a)
  at_in d [] a w = absurd w
  at_in d (x ∷ xs) a (inl e) = (zero, omega arith, e)
  at_in d (x ∷ xs) a (inr w) = let (i, h, e) = at_in d xs a w in (suc i, omega (arith, h), e)

  pub all_in : (P : A → Type 0) (xs : List A) (a : A) → All P xs → In xs a → P a
  all_in P [] a w i = absurd i
  all_in P (x ∷ xs) a w (inl e) = subst P e w.0
  all_in P (x ∷ xs) a w (inr i) = all_in P xs a w.1 i

  pub in_left : (xs ys : List A) (a : A) → In xs a → In (xs ++ ys) a
  in_left [] ys a w = absurd w
  in_left (x ∷ xs) ys a (inl e) = inl e
  in_left (x ∷ xs) ys a (inr w) = inr (in_left xs ys a w)

  pub in_right : (xs ys : List A) (a : A) → In ys a → In (xs ++ ys) a
  in_right [] ys a w = w
  in_right (x ∷ xs) ys a w = inr (in_right xs ys a w)

  pub in_cases : (xs ys : List A) (a : A) → In (xs ++ ys) a → In xs a ⊎ In ys a
  in_cases [] ys a w = inr w
  in_cases (x ∷ xs) ys a (inl e) = inl (inl e)
  in_cases (x ∷ xs) ys a (inr w) = by (in_cases xs ys a w)
    where
      by : In xs a ⊎ In ys a → In (x ∷ xs) a ⊎ In ys a
      by (inl v) = inl (inr v)
      by (inr v) = inr v

  pub in_map : {B : Type 0} (g : A → B) (xs : List A) (a : A) → In xs a → In (map g xs) (g a)
  in_map g [] a w = absurd w
  in_map {B} g (x ∷ xs) a (inl e) = inl (ap {B = B} g e)
  in_map g (x ∷ xs) a (inr w) = inr (in_map g xs a w)

  pub map_in : {B : Type 0} (g : A → B) (xs : List A) (b : B) → In (map g xs) b → (a : A) × In xs a × (g a ≡ b)
  map_in g [] b w = absurd w
  map_in g (x ∷ xs) b (inl e) = (x, inl refl, e)
  map_in g (x ∷ xs) b (inr w) = let (a, v, e) = map_in g xs b w in (a, inr v, e)

  pub all_are : (P : A → Type 0) (xs : List A) → ((a : A) → In xs a → P a) → All P xs
  all_are P [] w = tt
  all_are P (x ∷ xs) w = (w x (inl refl), all_are P xs (λ a i. w a (inr i)))

  -- two of a list, and one of each of two lists
  pub pairs_at : (R : A → A → Type 0) (d : A) (xs : List A) (i j : ℕ) → Pairs R xs → i < j → j < length xs → R (get_or xs i d) (get_or xs j d)
  pairs_at R d [] i j p h k = absurd (not-suc-le-zero k)
  pairs_at R d (x ∷ xs) i zero p h k = absurd (not-suc-le-zero h)
  pairs_at R d (x ∷ xs) zero (suc j) p h k = all_in (R x) xs (get_or xs j d) p.0 (in_at d xs j (le_of_suc-le-suc k))
  pairs_at R d (x ∷ xs) (suc i) (suc j) p h k = pairs_at R d xs i j p.1 (le_of_suc-le-suc h) (le_of_suc-le-suc k)

  pub pairs_across : (R : A → A → Type 0) (xs ys : List A) (a b : A) → Pairs R (xs ++ ys) → In xs a → In ys b → R a b
  pairs_across R [] ys a b p v w = absurd v
  pairs_across R (x ∷ xs) ys a b p (inl e) w = subst (λ (y : A). R y b) e (all_in (R x) ys b (all_right (R x) xs ys p.0) w)
  pairs_across R (x ∷ xs) ys a b p (inr v) w = pairs_across R xs ys a b p.1 v w

  pub pairs_right : (R : A → A → Type 0) (xs ys : List A) → Pairs R (xs ++ ys) → Pairs R ys
  pairs_right R [] ys p = p
  pairs_right R (x ∷ xs) ys p = pairs_right R xs ys p.1

  pub all_of : (P : A → Type 0) (d : A) (xs : List A) → ((i : ℕ) → i < length xs → P (get_or xs i d)) → All P xs
  all_of P d [] w = tt
  all_of P d (x ∷ xs) w = (w zero (omega arith), all_of P d xs (λ i h. w (suc i) (omega (arith, h))))

  pub pairs_of : (R : A → A → Type 0) (d : A) (xs : List A) → ((i j : ℕ) → i < j → j < length xs → R (get_or xs i d) (get_or xs j d)) → Pairs R xs
  pairs_of R d [] w = tt
  pairs_of R d (x ∷ xs) w = (
    all_of (R x) d xs (λ i h. w zero (suc i) (omega arith) (omega (arith, h))),
    pairs_of R d xs (λ i j h k. w (suc i) (suc j) (omega (arith, h)) (omega (arith, k))),
  )

  pub pairs_append : (R : A → A → Type 0) (xs ys : List A) → Pairs R xs → Pairs R ys → ((a b : A) → In xs a → In ys b → R a b) → Pairs R (xs ++ ys)
  pairs_append R [] ys p q w = q
  pairs_append R (x ∷ xs) ys p q w = (
    all_append (R x) xs ys p.0 (all_are (R x) ys (λ b v. w x b (inl refl) v)),
    pairs_append R xs ys p.1 q (λ a b u v. w a b (inr u) v),
  )

  -- the same in the library's words
  pub mem_in : (xs : List A) (a : A) → Memᴰ a xs → In xs a
  mem_in [] a m = absurd (Memᴰ.not-nil m)
  mem_in (x ∷ xs) a m = by (Memᴰ.cases_cons m) (mem_in xs a)
    where
      by : (a ≡ x) ⊎ Memᴰ a xs → (Memᴰ a xs → In xs a) → In (x ∷ xs) a
      by (inl e) ih = inl (sym e)
      by (inr n) ih = inr (ih n)

  pub in_mem : (xs : List A) (a : A) → In xs a → Memᴰ a xs
  in_mem [] a w = absurd w
  in_mem (x ∷ xs) a (inl e) = Memᴰ.head (sym e)
  in_mem (x ∷ xs) a (inr w) = Memᴰ.tail (in_mem xs a w)

  pub among_none : (p : A → Bool) (xs : List A) → among p xs ≡ false → All (λ x. p x ≡ false) xs
  unfolding among
  among_none p [] e = tt
  among_none p (x ∷ xs) e = let (a, b) = neither (p x) (among p xs) e in (a, among_none p xs b)

  pub none_among : (p : A → Bool) (xs : List A) → All (λ x. p x ≡ false) xs → among p xs ≡ false
  unfolding among
  none_among p [] a = refl
  none_among p (x ∷ xs) a = neither_of (p x) (among p xs) a.0 (none_among p xs a.1)

abbrev pub Differ : ℕ → ℕ → Type 0
Differ v w = v ≢ w

-- a member stands in the list
pub member_in : (v : ℕ) (vs : List ℕ) → member v vs ≡ true → In vs v
unfolding member among
member_in v [] e = absurd (true≢false (sym e))
member_in v (w ∷ vs) e = by (either (eqb v w) (member v vs) e) (member_in v vs)
  where
    by : (eqb v w ≡ true) ⊎ (member v vs ≡ true) → (member v vs ≡ true → In vs v) → In (w ∷ vs) v
    by (inl a) ih = inl (sym (eqb-true v w a))
    by (inr b) ih = inr (ih b)

pub in_member : (v : ℕ) (vs : List ℕ) → In vs v → member v vs ≡ true
unfolding member among
in_member v [] i = absurd i
in_member v (w ∷ vs) (inl e) = rw (eq-eqb v w (sym e))
in_member v (w ∷ vs) (inr i) = by (eqb v w) (in_member v vs i)
  where
    by : (u : Bool) → member v vs ≡ true → (u || member v vs) ≡ true
    by true m = refl
    by false m = m

pub no_member : (v : ℕ) (vs : List ℕ) → member v vs ≡ false → All (λ w. w ≢ v) vs
unfolding member
no_member v vs e = all_weaker (λ w. eqb v w ≡ false) (λ w. w ≢ v) (λ w f q. eqb-false v w f (sym q)) vs (among_none (eqb v) vs e)

pub no_member_of : (v : ℕ) (vs : List ℕ) → All (λ w. w ≢ v) vs → member v vs ≡ false
unfolding member
no_member_of v vs a = none_among (eqb v) vs (all_weaker (λ w. w ≢ v) (λ w. eqb v w ≡ false) (λ w f. ne_eqb v w (λ q. f (sym q))) vs a)
