-- A search through the bits from bit n on, byte by byte: what is left of a byte without its used bits is 0 exactly if none of the others is 1.
-- Assumes nothing.
use Prim.Native.Nat.{ℕ, ◌+◌, ◌*◌, ◌/◌, ◌%◌, ◌^◌, ◌<◌, ◌≤◌}
use native.Mathlib.Decide.{dec_lt}
use native.Mathlib.Nat.{mod-lt}
use native.Mathlib.Omega.{arith}
use mathlib.Core.Bool.{Bool, true, false, ◌&&◌}
use mathlib.Core.List.{List}
use mathlib.Core.Path.{◌≡◌, refl, sym, ap, ap₂, ◌∙◌}
use borrow.Author.Tests.{le-leb}
use lib.Dec.{eqb, leb}
use lib.ListN.{length, get_or}
use lib.Pow.{pow_pos, pow_mono, split, shr-shr, shr_le}
use Rattle.below.proofs.Laws.Least.{any_none}
use Rattle.bits.specs.Bit.{bit}
use Rattle.bits.specs.BitBytes.{unused_bit}
use Rattle.bits.specs.ByteBit.{byte_bit}
use Rattle.bits.proofs.Laws.Bit.{bit_high, bits_decide}
use Rattle.bits.proofs.Laws.ByteBit.{byte_bit_below}
use Rattle.bits.proofs.Laws.Packed.{one_decides}
use Rattle.bits.proofs.Laws.UnusedBits.{Unused, unused_start, unused_end}

-- a bit of what is left by a shift
bit-behind : (n used k : ℕ) → bit (n / 2 ^ used) k ≡ bit n (used + k)
unfolding bit
bit-behind n used k = ap (λ (m : ℕ). m % 2) (shr-shr n used k)

nothing_left : (n used : ℕ) → n / 2 ^ used ≡ 0 → n < 2 ^ used
nothing_left n used e = omega (arith, sym (split n used), ap (λ (m : ℕ). m * 2 ^ used) e, mod-lt n (pow_pos used))

-- none of the unused bits before bit `used` of byte `at` is 1
pub record NoneBefore (bytes : List ℕ) (n at used : ℕ) : Type 0 where
  pub before : Unused bytes n (8 * at + used)
  pub inside : used < 8

pub none_before_start : (bytes : List ℕ) (n : ℕ) → NoneBefore bytes n (n / 8) (n % 8)
none_before_start bytes n = record { before = unused_start bytes n (8 * (n / 8) + n % 8) (omega arith); inside = omega arith }

module _ (bytes : List ℕ) (n at used : ℕ) (so : NoneBefore bytes n at used) where
  pub none_before_next : get_or bytes at 0 / 2 ^ used ≡ 0 → NoneBefore bytes n (at + 1) 0
  unfolding byte_bit
  none_before_next e =
      record {
        before =
            record {
              from = omega (arith, so.before.from, so.inside);
              none = λ j h l. elim (dec_lt j (8 * at + used)) [ yes a ↦ so.before.none j h a | no a ↦ here j (omega arith) (omega arith) ];
            };
        inside = omega arith;
      }
    where
      here : (j : ℕ) → 8 * at + used ≤ j → j < 8 * (at + 1) → eqb (byte_bit bytes j) 1 ≡ false
      here j h l =
          let there : j / 8 ≡ at = omega arith in
          let behind : used ≤ j % 8 = omega arith in
          ap (λ (b : ℕ). eqb b 1)
          (ap (λ (b : ℕ). bit (get_or bytes b 0) (j % 8)) there
          ∙ bit_high (get_or bytes at 0) (j % 8) (omega (arith, nothing_left (get_or bytes at 0) used e, pow_mono {i = used} {j = j % 8} behind)))

  pub none_before-found : at < length bytes → get_or bytes at 0 < 256 → (get_or bytes at 0 / 2 ^ used ≡ 0 → ⊥) → true ≡ unused_bit bytes n
  unfolding byte_bit unused_bit
  none_before-found h small more = by (unused_bit bytes n) refl
    where
      byte : ℕ
      byte = get_or bytes at 0

      zeros : unused_bit bytes n ≡ false → (k : ℕ) → k < 8 → bit (byte / 2 ^ used) k ≡ bit 0 k
      zeros e k l = bit-behind byte used k ∙ elim (dec_lt (used + k) 8) [ yes a ↦ there a | no a ↦ above (omega arith) ] ∙ sym (bit_high 0 k (pow_pos k))
        where
          above : 8 ≤ used + k → bit byte (used + k) ≡ 0
          above a = bit_high byte (used + k) (omega (arith, pow_mono {i = 8} {j = used + k} a))

          unused : (i : ℕ) → n ≤ i → i < 8 * length bytes → byte_bit bytes i ≡ 0
          unused i f t =
              one_decides (byte_bit bytes i) 0 (byte_bit_below bytes i) (omega arith)
              (ap (λ (b : Bool). b && eqb (byte_bit bytes i) 1) (sym (le-leb n i f))
              ∙ any_none (λ j. leb n j && eqb (byte_bit bytes j) 1) (8 * length bytes) i e t)

          there : used + k < 8 → bit byte (used + k) ≡ 0
          there a =
              let i : ℕ = 8 * at + (used + k) in
              let byte-is : at ≡ i / 8 = omega arith in
              let bit_is : used + k ≡ i % 8 = omega arith in
              ap₂ (λ (b c : ℕ). bit (get_or bytes b 0) c) byte-is bit_is ∙ unused i (omega (arith, so.before.from)) (omega arith)

      by : (b : Bool) → unused_bit bytes n ≡ b → true ≡ unused_bit bytes n
      by true e = sym e
      by false e = absurd (more (bits_decide 8 (byte / 2 ^ used) 0 (omega (arith, shr_le byte used)) (omega arith) (zeros e)))

  pub none_before_end : length bytes ≤ at → false ≡ unused_bit bytes n
  none_before_end h = unused_end bytes n (8 * at + used) so.before (omega arith)
