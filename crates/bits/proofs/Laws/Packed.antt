-- What holds of numbers packed by so many bits each, at every width: they are read back, no unused bit is 1, and bytes behind them aren't read.
-- Assumes nothing.
use Prim.Native.Nat.{ℕ, zero, suc, ◌+◌, ◌*◌, ◌/◌, ◌%◌, ◌^◌, ◌<◌}
use native.Mathlib.Nat.{mod-eq_of_lt, mul-zero, div-lt_iff_lt-mul}
use native.Mathlib.Omega.{arith}
use mathlib.Core.Bool.{false}
use mathlib.Core.List.{List, [], ◌∷◌}
use mathlib.Core.Path.{◌≡◌, refl, sym, ap, ap₂, ◌∙◌}
use lib.Arith.{digits_lt, digits_div, digits_mod}
use lib.Dec.{eqb}
use lib.ListN.{length, take}
use lib.Seq.{ext_get_or, get_or-take}
use Rattle.below.specs.Table.{table}
use Rattle.below.proofs.Laws.Table.{length_table, get_or_table, table_same}
use Rattle.bits.specs.Bit.{bit}
use Rattle.bits.specs.BitBytes.{bit_bytes, unused_bit}
use Rattle.bits.specs.ByteBit.{byte_bit}
use Rattle.bits.specs.Digits.{digits, sum}
use Rattle.bits.specs.Packed.{packed_number, packed_bit, packed_bytes}
use Rattle.bits.proofs.Laws.Bit.{bit_below, digit_is-bit}
use Rattle.bits.proofs.Laws.BitBytes.{length-bit_bytes, bit_is, no_unused_bit, bit_bytes_same}
use Rattle.bits.proofs.Laws.ByteBit.{byte_bit_below}
use Rattle.bits.proofs.Laws.Digits.{length_digits, sum-digits}
use Rattle.bits.proofs.Laws.Gathered.{bits_below}

-- bits that are 1 alike are the same
pub one_decides : (a b : ℕ) → a < 2 → b < 2 → eqb a 1 ≡ eqb b 1 → a ≡ b
one_decides zero zero h l e = refl
one_decides zero (suc zero) h l e = cc
one_decides (suc zero) zero h l e = cc
one_decides (suc zero) (suc zero) h l e = refl
one_decides zero (suc (suc b)) h l e = absurd (omega arith)
one_decides (suc zero) (suc (suc b)) h l e = absurd (omega arith)
one_decides (suc (suc a)) b h l e = absurd (omega arith)

-- a number is the sum of its bits
bits_add_up : (width n : ℕ) → n < 2 ^ width → sum 2 (table (bit n) width) ≡ n
bits_add_up width n h = ap (sum 2) (sym same) ∙ sum-digits 2 width n (omega arith) ∙ mod-eq_of_lt h
  where
    same : digits 2 width n ≡ table (bit n) width
    same =
        ext_get_or 0 (digits 2 width n) (table (bit n) width) (length_digits 2 width n ∙ sym (length_table (bit n) width))
        (λ k l. let below : k < width = omega (arith, length_digits 2 width n) in digit_is-bit width n k below ∙ sym (get_or_table (bit n) width k 0 below))

module _ (f : ℕ → ℕ) (width n : ℕ) where
  -- each number is read back
  pub packed_reads : (k : ℕ) → k < n → f k < 2 ^ width → packed_number (packed_bytes f width n) width k ≡ f k
  unfolding packed_number packed_bytes
  packed_reads k h l = ap (sum 2) (table_same _ _ width bits) ∙ bits_add_up width (f k) l
    where
      bits : (j : ℕ) → j < width → byte_bit (bit_bytes (packed_bit f width) (n * width)) (k * width + j) ≡ bit (f k) j
      bits j small =
          one_decides _ _ (byte_bit_below (bit_bytes (packed_bit f width) (n * width)) (k * width + j)) (bit_below (f k) j)
          (bit_is (packed_bit f width) (n * width) (k * width + j) (digits_lt {q = k} {m = n} {r = j} {c = width} h small)
          ∙ ap₂ (λ (a b : ℕ). eqb (bit (f a) b) 1) (digits_div k small) (digits_mod k small))

  pub packed_length_lem : length (packed_bytes f width n) ≡ (n * width + 7) / 8
  unfolding packed_bytes
  packed_length_lem = length-bit_bytes _ (n * width)

  pub packed_no_unused : unused_bit (packed_bytes f width n) (n * width) ≡ false
  unfolding packed_bytes
  packed_no_unused = no_unused_bit _ (n * width)

-- numbers without bits take no bytes
pub packed_zero : (f : ℕ → ℕ) (n : ℕ) → packed_bytes f 0 n ≡ []
packed_zero f n = none (packed_bytes f 0 n) (packed_length_lem f 0 n ∙ rw mul-zero)
  where
    none : (bytes : List ℕ) → length bytes ≡ 0 → bytes ≡ []
    none [] e = refl
    none (b ∷ bs) e = absurd (omega arith)

module _ (bytes : List ℕ) (width k : ℕ) where
  pub packed_below : packed_number bytes width k < 2 ^ width
  unfolding packed_number
  packed_below = bits_below (λ j. byte_bit bytes (k * width + j)) (λ j. byte_bit_below bytes (k * width + j)) width

  -- numbers below n are read off the bytes that hold n of them
  pub packed_in_front : (n m : ℕ) → k < n → m ≡ (n * width + 7) / 8 → packed_number (take m bytes) width k ≡ packed_number bytes width k
  unfolding packed_number byte_bit
  packed_in_front n m h e = ap (sum 2) (table_same _ _ width front)
    where
      front : (j : ℕ) → j < width → byte_bit (take m bytes) (k * width + j) ≡ byte_bit bytes (k * width + j)
      front j small =
          ap (λ (b : ℕ). bit b ((k * width + j) % 8))
          (get_or-take m bytes ((k * width + j) / 8) 0 (omega (arith, digits_lt {q = k} {m = n} {r = j} {c = width} h small)))

-- numbers that agree are packed alike
pub packed_same : (f g : ℕ → ℕ) (width n : ℕ) → ((k : ℕ) → k < n → f k ≡ g k) → packed_bytes f width n ≡ packed_bytes g width n
unfolding packed_bytes
packed_same f g zero n same = packed_zero f n ∙ sym (packed_zero g n)
packed_same f g (suc width) n same = wide
  where
    wide : packed_bytes f (suc width) n ≡ packed_bytes g (suc width) n
    wide =
        bit_bytes_same (packed_bit f (suc width)) (packed_bit g (suc width)) (n * suc width)
        (λ i h. ap (λ (m : ℕ). eqb (bit m (i % suc width)) 1) (same (i / suc width) ((div-lt_iff_lt-mul (omega arith)).1 h)))
