-- What holds of a table: its length, and what stands at each place. Assumes nothing.
use Prim.Native.Nat.{ℕ, zero, suc, ◌<◌, ◌≤◌}
use native.Mathlib.Omega.{arith}
use native.Mathlib.Nat.{not-suc-le-zero}
use native.Mathlib.Decide.{dec_lt}
use mathlib.Core.List.{List, [], ◌∷◌, ◌++◌, map, map-append}
use mathlib.Core.Path.{◌≡◌, refl, ap, ap₂, ◌∙◌}
use lib.ListN.{length, get_or, drop, length-append, drop_of_length-le, get_or-append, get_or-eq_default}
use lib.Seq.{get_or_at, drop-cons, ext_get_or}
use Rattle.below.specs.Table.{table}

module _ {ℓ} {A : Type ℓ} where
  pub length_table : (f : ℕ → A) (n : ℕ) → length (table f n) ≡ n
  unfolding table
  length_table f zero = refl
  length_table f (suc n) = length-append (table f n) (f n ∷ []) ∙ omega (arith, length_table f n)

  pub get_or_table : (f : ℕ → A) (n i : ℕ) (d : A) → i < n → get_or (table f n) i d ≡ f i
  unfolding table
  get_or_table f zero i d h = absurd (not-suc-le-zero h)
  get_or_table f (suc n) i d h = elim (dec_lt i n) [
    | yes a ↦ get_or-append (table f n) (f n ∷ []) d i (omega (arith, length_table f n))
        ∙ get_or_table f n i d a
    | no b ↦ last (omega arith)
  ]
    where
      last : i ≡ n → get_or (table f n ++ (f n ∷ [])) i d ≡ f i
      last e = rw e (get_or_at (table f n) (f n) [] d n (length_table f n))

  pub get_or_table_past : (f : ℕ → A) (n i : ℕ) (d : A) → n ≤ i → get_or (table f n) i d ≡ d
  get_or_table_past f n i d h = get_or-eq_default (table f n) d (omega (arith, length_table f n))

  -- tables of what agrees below the bound are the same
  pub table_same : (f g : ℕ → A) (n : ℕ) → ((i : ℕ) → i < n → f i ≡ g i) → table f n ≡ table g n
  unfolding table
  table_same f g zero e = refl
  table_same f g (suc n) e = ap₂ {C = List A} (λ l x. l ++ (x ∷ [])) (table_same f g n (λ i h. e i (omega arith))) (e n (omega arith))

  -- a list is the table of its elements
  pub table_get_or : (l : List A) (d : A) → table (λ i. get_or l i d) (length l) ≡ l
  table_get_or l d = ext_get_or d (table (λ i. get_or l i d) (length l)) l (length_table (λ i. get_or l i d) (length l))
      (λ i h. get_or_table (λ j. get_or l j d) (length l) i d (omega (arith, length_table (λ j. get_or l j d) (length l))))

  -- what is left of a table at a place: what stands there, and what is left behind it
  pub drop_table : (f : ℕ → A) (n i : ℕ) → i < n → drop i (table f n) ≡ f i ∷ drop (suc i) (table f n)
  drop_table f n i h = drop-cons (table f n) i (f i) (omega (arith, length_table f n)) ∙ ap (λ (a : A). a ∷ drop (suc i) (table f n))
      (get_or_table f n i (f i) h)

  pub drop_table_all : (f : ℕ → A) (n i : ℕ) → n ≤ i → drop i (table f n) ≡ []
  drop_table_all f n i h = drop_of_length-le (table f n) {i = i} (omega (arith, length_table f n))

pub map_table {ℓ κ} : {A : Type ℓ} {B : Type κ} (g : A → B) (f : ℕ → A) (n : ℕ) → map g (table f n) ≡ table (λ i. g (f i)) n
unfolding table
map_table g f zero = refl
map_table {B = B} g f (suc n) = map-append g (table f n) (f n ∷ []) ∙ ap (λ (l : List B). l ++ (g (f n) ∷ [])) (map_table g f n)
