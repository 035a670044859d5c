-- A number gathered bit by bit, the lowest first: after j bits it is their sum, and fits in j bits. Assumes nothing.
use Prim.Native.Nat.{ℕ, suc, ◌+◌, ◌*◌, ◌%◌, ◌^◌, ◌<◌, ◌≤◌}
use native.Mathlib.Nat.{mod-eq_of_lt}
use native.Mathlib.Numerals.{add-one}
use native.Mathlib.Omega.{arith}
use mathlib.Core.List.{[], ◌∷◌}
use mathlib.Core.Path.{◌≡◌, refl, sym, ap, ap₂, ◌∙◌, subst}
use lib.ListN.{length}
use lib.Pow.{pow_mono}
use Rattle.below.specs.Table.{table}
use Rattle.below.proofs.Laws.Table.{length_table, get_or_table}
use Rattle.bits.specs.Digits.{sum}
use Rattle.bits.proofs.Laws.Digits.{sum_below, all_below_of}
use Rattle.bits.proofs.Laws.Sum.{sum_append}

-- the first j of n bits
pub record Gathered (f : ℕ → ℕ) (n j number : ℕ) : Type 0 where
  pub within : j ≤ n
  pub is : number ≡ sum 2 (table f j)

pub gathered_start : (f : ℕ → ℕ) (n : ℕ) → Gathered f n 0 0
unfolding sum table
gathered_start f n = record { within = omega arith; is = refl }

module _ (f : ℕ → ℕ) (bits : (i : ℕ) → f i < 2) where
  pub bits_below : (j : ℕ) → sum 2 (table f j) < 2 ^ j
  bits_below j =
      subst (λ (n : ℕ). sum 2 (table f j) < 2 ^ n) (length_table f j)
      (sum_below 2 (table f j)
      (all_below_of 2 (table f j) (λ i h. subst (λ (n : ℕ). n < 2) (sym (get_or_table f j i 0 (omega (arith, length_table f j)))) (bits i))))

  module _ (n j number bit : ℕ) (so : Gathered f n j number) (also : bit ≡ f j) where
    more : number + bit * 2 ^ j ≡ sum 2 (table f (suc j))
    unfolding table sum
    more =
        let first = sum 2 (table f j) in
        let weight : 2 ^ length (table f j) ≡ 2 ^ j = ap (λ (n : ℕ). 2 ^ n) (length_table f j) in
        ap₂ (λ (n b : ℕ). n + b * 2 ^ j) so.is also
        ∙ sym (sum_append 2 (table f j) (f j ∷ []) ∙ ap (λ (n : ℕ). first + n * (f j + 2 * 0)) weight ∙ omega arith)

    -- in a byte
    pub gathered_fits : j < 8 → number + bit * 2 ^ j < 256
    gathered_fits h = omega (arith, more, bits_below (suc j), pow_mono {i = suc j} {j = 8} h)

    pub gathered_next : j < n → n ≤ 8 → Gathered f n (j + 1) (number + bit * 2 ^ j % 2 ^ 8)
    gathered_next h l = record { within = omega arith; is = ap (λ (n : ℕ). number + n) (mod-eq_of_lt small) ∙ more ∙ rw add-one }
      where
        small : bit * 2 ^ j < 2 ^ 8
        small = omega (arith, gathered_fits (omega arith))

pub gathered_all : (f : ℕ → ℕ) (n j number : ℕ) → Gathered f n j number → n ≤ j → number ≡ sum 2 (table f n)
gathered_all f n j number so h = so.is ∙ ap (λ (m : ℕ). sum 2 (table f m)) (omega (arith, so.within))
