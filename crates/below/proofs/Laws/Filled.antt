-- A list of numbers that is filled from the front: what is passed is as f says, the rest as before. Every filling loop keeps this.
-- Assumes nothing.
use Prim.Native.Nat.{ℕ, ◌+◌, ◌<◌, ◌≤◌}
use native.Mathlib.Omega.{arith}
use native.Mathlib.Decide.{dec_lt, ℕ_discrete}
use native.Mathlib.Nat.{not-suc-le-zero}
use mathlib.Core.Bool.{cond}
use mathlib.Core.List.{List}
use mathlib.Core.Path.{◌≡◌, refl, sym, ap, ◌∙◌}
use lib.Dec.{ltb}
use lib.ListN.{length, get_or, set, length-set, replicate, length-replicate, get_or-replicate}
use lib.Seq.{get_or-set_same, get_or-set_other, ext_get_or}
use borrow.Author.Tests.{lt-ltb, le-ltb}
use Rattle.below.specs.Table.{table}
use Rattle.below.proofs.Laws.Table.{length_table, get_or_table, table_same}

pub record Filled (f : ℕ → ℕ) (before : List ℕ) (i : ℕ) (after : List ℕ) : Type 0 where
  pub long : length after ≡ length before
  pub front : (j : ℕ) → j < i → get_or after j 0 ≡ f j
  pub rest : (j : ℕ) → i ≤ j → get_or after j 0 ≡ get_or before j 0

module _ (f : ℕ → ℕ) (before : List ℕ) where
  pub filled_start : Filled f before 0 before
  filled_start = record { long = refl; front = λ j h. absurd (not-suc-le-zero h); rest = λ j h. refl }

  pub filled_next : (i v : ℕ) (after : List ℕ) → Filled f before i after → i < length before → v ≡ f i → Filled f before (i + 1) (set after i v)
  filled_next i v after filled h e = record {
    long = length-set after i v ∙ filled.long;
    front = front;
    rest =
        λ j l. get_or-set_other after i j v 0 (omega arith) ∙ filled.rest j (omega arith);
  }
    where
      here : (j : ℕ) → j ≡ i → get_or (set after i v) j 0 ≡ f j
      here j q = rw q (get_or-set_same after i v 0 (omega (arith, filled.long)) ∙ e)

      front : (j : ℕ) → j < i + 1 → get_or (set after i v) j 0 ≡ f j
      front j l = elim (ℕ_discrete j i) [ yes q ↦ here j q | no d ↦ get_or-set_other after i j v 0 d ∙ filled.front j (omega arith) ]

  pub filled_end : (n i : ℕ) (after : List ℕ) → Filled f before i after → i ≡ n → after ≡ table (λ s. cond (ltb s n) (f s) (get_or before s 0)) (length before)
  filled_end n i after filled q = ext_get_or 0 after (table (λ s. cond (ltb s n) (f s) (get_or before s 0)) (length before))
      (filled.long ∙ sym (length_table (λ s. cond (ltb s n) (f s) (get_or before s 0)) (length before)))
      (λ j h. at j ∙ sym (get_or_table (λ s. cond (ltb s n) (f s) (get_or before s 0)) (length before) j 0 (omega (arith, filled.long))))
    where
      at : (j : ℕ) → get_or after j 0 ≡ cond (ltb j n) (f j) (get_or before j 0)
      at j = elim (dec_lt j n) [
        | yes h ↦ rw (lt-ltb j n h) (filled.front j (omega arith))
        | no h ↦ rw (le-ltb j n (omega arith)) (filled.rest j (omega arith))
      ]

-- the same number everywhere
pub replicate_table : {A : Type 0} (n : ℕ) (a : A) → replicate n a ≡ table (λ s. a) n
replicate_table {A} n a = ext_get_or a (replicate n a) (table (λ s. a) n) (length-replicate n a ∙ sym (length_table (λ s. a) n))
    (λ j h. get_or-replicate n j a a (within j h) ∙ sym (get_or_table (λ s. a) n j a (within j h)))
  where
    within : (j : ℕ) → j < length (replicate n a) → j < n
    within j h = omega (arith, length-replicate n a)

-- a list that is filled to its end
pub filled_whole : (f : ℕ → ℕ) (before : List ℕ) (n i : ℕ) (after : List ℕ) → Filled f before i after → length before ≡ n → n ≤ i → after ≡ table f n
filled_whole f before n i after filled long h = ext_get_or 0 after (table f n) (filled.long ∙ long ∙ sym (length_table f n))
    (λ j l. filled.front j (omega (arith, filled.long)) ∙ sym (get_or_table f n j 0 (omega (arith, filled.long))))

-- zeros that are filled from the front
pub filled_zeros : (f : ℕ → ℕ) (before : List ℕ) (m n i : ℕ) (after : List ℕ) → Filled f before i after → before ≡ table (λ s. 0) m → i ≡ n
    → after ≡ table (λ s. cond (ltb s n) (f s) 0) m
filled_zeros f before m n i after filled e q = filled_end f before n i after filled q
    ∙ ap (table (λ s. cond (ltb s n) (f s) (get_or before s 0))) (ap length e ∙ length_table {A = ℕ} (λ s. 0) m)
    ∙ table_same _ _ m (λ s h. ap (λ (x : ℕ). cond (ltb s n) (f s) x) (ap (λ (l : List ℕ). get_or l s 0) e ∙ get_or_table {A = ℕ} (λ s. 0) m s 0 h))
