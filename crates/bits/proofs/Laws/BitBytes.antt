-- What holds of a list of bytes made of n bits: each bit is its function's, no unused bit is 1, and bits that agree give the same bytes.
-- Assumes nothing.
use Prim.Native.Nat.{ℕ, ◌+◌, ◌*◌, ◌/◌, ◌%◌, ◌<◌, ◌≤◌}
use native.Mathlib.Decide.{dec_lt}
use native.Mathlib.Omega.{arith}
use mathlib.Core.Bool.{Bool, true, false, ◌&&◌}
use mathlib.Core.Path.{◌≡◌, refl, sym, ap, ◌∙◌, subst}
use lib.Dec.{eqb, leb, ltb}
use lib.ListN.{length, get_or}
use borrow.Author.Tests.{lt-ltb, le-ltb, lt-leb}
use Rattle.below.specs.Table.{table}
use Rattle.below.proofs.Laws.Least.{none_any}
use Rattle.below.proofs.Laws.Table.{length_table, get_or_table, table_same}
use Rattle.bits.specs.Bit.{bit, one_if}
use Rattle.bits.specs.BitBytes.{bit_byte, bit_bytes, unused_bit}
use Rattle.bits.specs.ByteBit.{byte_bit}
use Rattle.bits.specs.Digits.{sum}
use Rattle.bits.proofs.Laws.Bit.{bit-sum, is_one, one_if_below}
use Rattle.bits.proofs.Laws.Digits.{all_below_of}

module _ (f : ℕ → Bool) (n : ℕ) where
  bit_at : ℕ → ℕ
  bit_at i = one_if (ltb i n && f i)

  pub length-bit_bytes : length (bit_bytes f n) ≡ (n + 7) / 8
  unfolding bit_bytes
  length-bit_bytes = length_table (bit_byte f n) ((n + 7) / 8)

  -- a bit that is used or not
  pub bit_of_bytes : (i : ℕ) → i < 8 * ((n + 7) / 8) → byte_bit (bit_bytes f n) i ≡ one_if (ltb i n && f i)
  unfolding byte_bit bit_bytes bit_byte bit_at
  bit_of_bytes i h =
      ap (λ (m : ℕ). bit m (i % 8)) (get_or_table (λ j. sum 2 (table (λ k. bit_at (8 * j + k)) 8)) ((n + 7) / 8) (i / 8) 0 (omega arith))
      ∙ bit-sum (eight (i / 8)) (i % 8) (all_below_of 2 (eight (i / 8)) below) (omega (arith, length_table (λ k. bit_at (8 * (i / 8) + k)) 8))
      ∙ get_or_table (λ k. bit_at (8 * (i / 8) + k)) 8 (i % 8) 0 (omega arith)
      ∙ ap bit_at (omega arith)
    where
      eight : ℕ → mathlib.Core.List.List ℕ
      eight j = table (λ k. bit_at (8 * j + k)) 8

      below : (k : ℕ) → k < length (eight (i / 8)) → get_or (eight (i / 8)) k 0 < 2
      below k l =
          let eighth = get_or_table (λ k. bit_at (8 * (i / 8) + k)) 8 k 0 (omega (arith, length_table (λ k. bit_at (8 * (i / 8) + k)) 8)) in
          subst (λ (m : ℕ). m < 2) (sym eighth) (one_if_below (ltb (8 * (i / 8) + k) n && f (8 * (i / 8) + k)))

  -- bit i is what the function says
  pub bit_is : (i : ℕ) → i < n → eqb (byte_bit (bit_bytes f n) i) 1 ≡ f i
  bit_is i h = ap (λ (m : ℕ). eqb m 1) (bit_of_bytes i (omega arith) ∙ ap (λ (b : Bool). one_if (b && f i)) (lt-ltb i n h)) ∙ is_one (f i)

  pub no_unused_bit : unused_bit (bit_bytes f n) n ≡ false
  unfolding unused_bit one_if
  no_unused_bit = none_any (λ i. leb n i && eqb (byte_bit (bit_bytes f n) i) 1) (8 * length (bit_bytes f n)) each
    where
      used : (i : ℕ) → i < n → (leb n i && eqb (byte_bit (bit_bytes f n) i) 1) ≡ false
      used i a = ap (λ (b : Bool). b && eqb (byte_bit (bit_bytes f n) i) 1) (lt-leb n i a)

      both : (a b : Bool) → b ≡ false → (a && b) ≡ false
      both true b e = e
      both false b e = refl

      past : (i : ℕ) → n ≤ i → i < 8 * ((n + 7) / 8) → (leb n i && eqb (byte_bit (bit_bytes f n) i) 1) ≡ false
      past i a l =
          let none = bit_of_bytes i l ∙ ap (λ (b : Bool). one_if (b && f i)) (le-ltb i n a) in
          both (leb n i) (eqb (byte_bit (bit_bytes f n) i) 1) (ap (λ (m : ℕ). eqb m 1) none)

      each : (i : ℕ) → i < 8 * length (bit_bytes f n) → (leb n i && eqb (byte_bit (bit_bytes f n) i) 1) ≡ false
      each i h = elim (dec_lt i n) [ yes a ↦ used i a | no a ↦ past i (omega arith) (omega (arith, length-bit_bytes)) ]

module _ (f g : ℕ → Bool) (n : ℕ) (same : (i : ℕ) → i < n → f i ≡ g i) where
  pub bit_byte_same : (j : ℕ) → bit_byte f n j ≡ bit_byte g n j
  unfolding bit_byte
  bit_byte_same j = ap (sum 2) (table_same _ _ 8 (λ k h. ap one_if (at (8 * j + k))))
    where
      none : (i : ℕ) → n ≤ i → (ltb i n && f i) ≡ (ltb i n && g i)
      none i l = rw (le-ltb i n l)

      at : (i : ℕ) → (ltb i n && f i) ≡ (ltb i n && g i)
      at i = elim (dec_lt i n) [ yes l ↦ ap (λ (b : Bool). ltb i n && b) (same i l) | no l ↦ none i (omega arith) ]

  pub bit_bytes_same : bit_bytes f n ≡ bit_bytes g n
  unfolding bit_bytes
  bit_bytes_same = table_same _ _ ((n + 7) / 8) (λ j h. bit_byte_same j)
