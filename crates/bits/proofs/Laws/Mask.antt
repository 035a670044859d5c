-- A bit alone, by a mask; and a bit of a byte put by its weight. Assumes nothing.
use Prim.Native.Nat.{ℕ, zero, suc, ◌+◌, ◌*◌, ◌/◌, ◌%◌, ◌^◌, ◌-◌, min, ◌<◌, ◌≤◌}
use native.Mathlib.Omega.{arith}
use native.Mathlib.Nat.{mul-one, one-mul, pow-suc, mod-eq_of_lt}
use lib.Pow.{pow-lt}
use mathlib.Core.Bool.{true, false}
use lib.Bits.{bit_and, and_step, and_zero_r}
use mathlib.Core.Path.{◌≡◌, ap, ap₂, ◌∙◌}
use Rattle.bits.specs.Bit.{bit, one_if, with_bit}
use Rattle.bits.proofs.Laws.Bit.{bit_zero, bit_suc, bit-part}

-- bit k alone, by a mask
pub part-by_mask : (n k : ℕ) → bit_and n (2 ^ k) ≡ bit n k * 2 ^ k
part-by_mask n zero = rw (bit_zero, mul-one) (and_step n 1 ∙ ap (λ (m : ℕ). m * 2 + min (n % 2) 1) (and_zero_r (n / 2)) ∙ low (n % 2) (omega arith))
  where
    low : (m : ℕ) → m < 2 → 0 * 2 + min m 1 ≡ m
    low m h = omega arith
part-by_mask n (suc k) =
    and_step n (2 ^ suc k)
    ∙ ap₂ (λ (a b : ℕ). bit_and (n / 2) a * 2 + min (n % 2) b) half even
    ∙ rw (bit_suc, pow-suc) (omega (arith, part-by_mask (n / 2) k))
  where
    half : 2 ^ suc k / 2 ≡ 2 ^ k
    half = omega (arith, pow-suc 2 k)

    even : 2 ^ suc k % 2 ≡ 0
    even = omega (arith, pow-suc 2 k)

-- bit k of a byte put by its weight and a mask, as code does it
module _ (byte k : ℕ) (low : k < 8) where
  weight_is : 1 * 2 ^ k % 256 ≡ 2 ^ k
  weight_is = rw one-mul (mod-eq_of_lt (pow-lt {i = k} {j = 8} low))

  part-is : bit_and byte (1 * 2 ^ k % 256) ≡ bit byte k * 2 ^ k
  part-is = ap (bit_and byte) weight_is ∙ part-by_mask byte k

  pub mask_within : bit_and byte (1 * 2 ^ k % 256) ≤ byte
  mask_within = omega (arith, part-is, bit-part byte k)

  pub with_one : byte - bit_and byte (1 * 2 ^ k % 256) + 1 * 2 ^ k % 256 ≡ with_bit byte k true
  unfolding with_bit one_if
  with_one = omega (arith, part-is, weight_is)

  pub with_none : byte - bit_and byte (1 * 2 ^ k % 256) ≡ with_bit byte k false
  unfolding with_bit one_if
  with_none = omega (arith, part-is)
