-- What holds of a bit of a number, at every width. Assumes nothing.
use Prim.Native.Nat.{ℕ, zero, suc, ◌+◌, ◌*◌, ◌/◌, ◌%◌, ◌^◌, ◌<◌, ◌≤◌}
use native.Mathlib.Decide.{ℕ_discrete}
use native.Mathlib.Omega.{arith}
use native.Mathlib.Nat.{div-one, pow-suc, div-eq_of_lt, pow-zero}
use native.Mathlib.Nat.{not-suc-le-zero, le_of_suc-le-suc, mul-one}
use lib.Dec.{eqb}
use lib.Bits.{bit_and}
use Rattle.std.specs.Prelude.{bit_or}
use Rattle.std.specs.Int.{bit_not}
use Rattle.std.proofs.Common.{w8}
use Rattle.std.proofs.lemmas.Nat.{and_le_l, or_lt}
use Rattle.std.proofs.lemmas.Nat.Bits.{
  bit_at_lowest,
  bit_at-suc,
  bit_at-lt,
  shr_and_one,
  same_from_bits_below,
  bit_at_set_same,
  bit_at_set_other,
  bit_at_clear_same,
  bit_at_clear_other,
}
use mathlib.Core.Bool.{Bool, true, false}
use mathlib.Core.List.{List}
use mathlib.Core.Logic.{◌≢◌}
use mathlib.Core.Path.{◌≡◌, refl, sym, ap, ◌∙◌}
use lib.ListN.{length, get_or}
use Rattle.bits.specs.Bit.{bit, one_if, with_bit}
use Rattle.bits.specs.Digits.{digits, sum, AllBelow}
use Rattle.bits.proofs.Laws.Digits.{get_or-digits, digits_sum, digits_mod_pow}

pub bit_zero : (n : ℕ) → bit n 0 ≡ n % 2
unfolding bit
bit_zero = bit_at_lowest

pub bit_suc : (n k : ℕ) → bit n (suc k) ≡ bit (n / 2) k
unfolding bit
bit_suc = bit_at-suc

pub bit_below : (n k : ℕ) → bit n k < 2
unfolding bit
bit_below = bit_at-lt

-- bit k by a shift and a mask, as code takes it
pub bit-by_mask : (n k : ℕ) → bit_and (n / 2 ^ k) 1 ≡ bit n k
unfolding bit
bit-by_mask = shr_and_one

-- bit k is digit k in base 2
pub digit_is-bit : (w n k : ℕ) → k < w → get_or (digits 2 w n) k 0 ≡ bit n k
unfolding bit
digit_is-bit w n k h = get_or-digits 2 w n k h

-- bits above a width aren't changed by what lies above it
pub bit_mod : (n w k : ℕ) → k < w → bit (n % 2 ^ w) k ≡ bit n k
bit_mod n w k h = sym (digit_is-bit w (n % 2 ^ w) k h) ∙ ap (λ (l : List ℕ). get_or l k 0) (digits_mod_pow 2 w n (omega arith)) ∙ digit_is-bit w n k h

pub bit_high : (n k : ℕ) → n < 2 ^ k → bit n k ≡ 0
unfolding bit
bit_high n k h = ap (λ (m : ℕ). m % 2) (div-eq_of_lt h)

-- bit k of the sum of bits is the k-th of them
pub bit-sum : (bs : List ℕ) (k : ℕ) → AllBelow 2 bs → k < length bs → bit (sum 2 bs) k ≡ get_or bs k 0
bit-sum bs k h l = sym (digit_is-bit (length bs) (sum 2 bs) k l) ∙ ap (λ (ds : List ℕ). get_or ds k 0) (digits_sum 2 bs h)

-- two numbers of w bits with the same bits are the same
pub bits_decide : (w n m : ℕ) → n < 2 ^ w → m < 2 ^ w → ((k : ℕ) → k < w → bit n k ≡ bit m k) → n ≡ m
unfolding bit
bits_decide = same_from_bits_below

pub bit-part : (n k : ℕ) → bit n k * 2 ^ k ≤ n
bit-part n zero = rw (bit_zero, pow-zero) (omega arith)
bit-part n (suc k) = rw (bit_suc, pow-suc) (omega (arith, bit-part (n / 2) k))

pub one_if_below : (b : Bool) → one_if b < 2
unfolding one_if
one_if_below true = omega arith
one_if_below false = omega arith

pub is_one : (b : Bool) → eqb (one_if b) 1 ≡ b
unfolding one_if
is_one true = refl
is_one false = refl

with_bit_zero : (n : ℕ) (b : Bool) → with_bit n 0 b ≡ n / 2 * 2 + one_if b
unfolding with_bit bit
with_bit_zero n b = rw (div-one, mul-one) (omega arith)

with_bit_suc : (n k : ℕ) (b : Bool) → with_bit n (suc k) b ≡ with_bit (n / 2) k b * 2 + n % 2
unfolding with_bit
with_bit_suc n k b = rw (bit_suc, pow-suc) (omega (arith, bit-part (n / 2) k))

pub bit_with_same : (n k : ℕ) (b : Bool) → bit (with_bit n k b) k ≡ one_if b
bit_with_same n zero b = rw (bit_zero, with_bit_zero) (omega (arith, one_if_below b))
bit_with_same n (suc k) b = rw (bit_suc, with_bit_suc) (ap (λ (m : ℕ). bit m k) half ∙ bit_with_same (n / 2) k b)
  where
    half : (with_bit (n / 2) k b * 2 + n % 2) / 2 ≡ with_bit (n / 2) k b
    half = omega arith

pub bit_with_other : (n k j : ℕ) (b : Bool) → j ≢ k → bit (with_bit n k b) j ≡ bit n j
bit_with_other n zero zero b h = absurd (h refl)
bit_with_other n zero (suc j) b h = rw (bit_suc, with_bit_zero) (ap (λ (m : ℕ). bit m j) half ∙ sym (bit_suc n j))
  where
    half : (n / 2 * 2 + one_if b) / 2 ≡ n / 2
    half = omega (arith, one_if_below b)
bit_with_other n (suc k) zero b h = rw (bit_zero, with_bit_suc) (omega (arith, bit_zero n))
bit_with_other n (suc k) (suc j) b h =
    rw (bit_suc, with_bit_suc) (ap (λ (m : ℕ). bit m j) half ∙ bit_with_other (n / 2) k j b (λ e. h (ap suc e)) ∙ sym (bit_suc n j))
  where
    half : (with_bit (n / 2) k b * 2 + n % 2) / 2 ≡ with_bit (n / 2) k b
    half = omega arith

pub with_bit_below : (n k w : ℕ) (b : Bool) → n < 2 ^ w → k < w → with_bit n k b < 2 ^ w
with_bit_below n k zero b h l = absurd (not-suc-le-zero l)
with_bit_below n zero (suc w) b h l = rw with_bit_zero (omega (arith, pow-suc 2 w, one_if_below b))
with_bit_below n (suc k) (suc w) b h l =
    let below = with_bit_below (n / 2) k w b (omega (arith, pow-suc 2 w)) (le_of_suc-le-suc l) in
    rw with_bit_suc (omega (arith, pow-suc 2 w, below))

-- a byte with the bits of another, but for bit k, is that byte with another bit k
module _ (byte k : ℕ) (small : byte < 2 ^ 8) (low : k < 8) where
  with_bit_by : (b : Bool) (r : ℕ) → r < 2 ^ 8 → bit r k ≡ one_if b → ((i : ℕ) → i < 8 → i ≢ k → bit r i ≡ bit byte i)
      → r ≡ with_bit byte k b
  with_bit_by b r fits here there = bits_decide 8 r (with_bit byte k b) fits (with_bit_below byte k 8 b small low) each
    where
      each : (i : ℕ) → i < 8 → bit r i ≡ bit (with_bit byte k b) i
      each i h = elim (ℕ_discrete i k) [
        | yes e ↦ rw e (here ∙ sym (bit_with_same byte k b))
        | no d ↦ there i h d ∙ sym (bit_with_other byte k i b d)
      ]

  -- as code puts it, by a mask
  pub one_put : bit_or byte (1 * 2 ^ k % 2 ^ 8) ≡ with_bit byte k true
  unfolding bit one_if
  one_put = with_bit_by true _ (or_lt 8 byte (1 * 2 ^ k % 2 ^ 8) small (omega arith)) (bit_at_set_same w8 byte k low)
      (λ i h d. bit_at_set_other w8 byte k low i d)

  pub none_put : bit_and byte (bit_not w8 (1 * 2 ^ k % 2 ^ 8)) ≡ with_bit byte k false
  unfolding bit one_if
  none_put = with_bit_by false _ (omega (arith, and_le_l byte (bit_not w8 (1 * 2 ^ k % 2 ^ 8)))) (bit_at_clear_same w8 byte k low)
      (λ i h d. bit_at_clear_other w8 byte k low i h d)

pub ruleset by_mask = (bit-by_mask)
