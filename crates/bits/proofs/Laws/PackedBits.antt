-- The bits of packed numbers, each at a byte and a bit of it or at a number and a bit of it: places that don't wrap. Assumes nothing.
use Prim.Native.Nat.{ℕ, ◌+◌, ◌*◌, ◌/◌, ◌%◌, ◌≤◌}
use native.Mathlib.Nat.{mul-le-mul_left}
use native.Mathlib.Omega.{arith}
use mathlib.Core.List.{List}
use mathlib.Core.Path.{◌≡◌, ap, ap₂}
use lib.ListN.{get_or}
use Rattle.bits.specs.Bit.{bit}
use Rattle.bits.specs.ByteBit.{byte_bit}

-- whole eights of numbers, and what is left
pub eights_within : (k w : ℕ) → w ≤ 8 → k / 8 * w ≤ k / 8 * 8
eights_within k w h = mul-le-mul_left (k / 8) h

pub rest_within : (k w : ℕ) → w ≤ 8 → k % 8 * w ≤ 56
rest_within k w h = omega (arith, mul-le-mul_left (k % 8) h)

pub eights_and-rest : (k w : ℕ) → k * w ≡ k / 8 * w * 8 + k % 8 * w
eights_and-rest k w = let parts : k * w ≡ (k / 8 * 8 + k % 8) * w = ap (λ (n : ℕ). n * w) (omega arith) in omega arith

-- the bytes that n numbers take
pub bytes_of_numbers : (n w : ℕ) → n / 8 * w + (n % 8 * w + 7) / 8 ≡ (n * w + 7) / 8
bytes_of_numbers n w = omega (arith, eights_and-rest n w)

-- bit j of number k
pub bit-by-place : (bytes : List ℕ) (w k j : ℕ) → bit (get_or bytes (k / 8 * w + (k % 8 * w + j) / 8) 0) ((k % 8 * w + j) % 8) ≡ byte_bit bytes (k * w + j)
unfolding byte_bit
bit-by-place bytes w k j = ap₂ (λ (a b : ℕ). bit (get_or bytes a 0) b) (omega (arith, eights_and-rest k w)) (omega (arith, eights_and-rest k w))

pub ruleset places = (eights_within, rest_within, bit-by-place)
