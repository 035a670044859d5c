-- A power of two by a shift, as code takes it: within 64 bits nothing is lost. Assumes nothing.
use Prim.Native.Nat.{ℕ, ◌*◌, ◌%◌, ◌^◌, ◌<◌, ◌≤◌}
use native.Mathlib.Omega.{arith}
use native.Mathlib.Nat.{one-mul, mod-eq_of_lt}
use mathlib.Core.Path.{◌≡◌, sym}
use lib.Bits.{and_mask}
use lib.Pow.{pow-lt, pow_pos, pow_mono}

pub power_by_shift : (width : ℕ) → width < 64 → 1 * 2 ^ width % 2 ^ 64 ≡ 2 ^ width
power_by_shift width h = rw one-mul (mod-eq_of_lt (pow-lt {i = width} {j = 64} h))

-- a number of 64 bits has no more
pub mod_wide : (n width : ℕ) → n < 2 ^ 64 → 64 ≤ width → n ≡ n % 2 ^ width
mod_wide n width h l = sym (mod-eq_of_lt (omega (arith, pow_mono {i = 64} {j = width} l)))

pub ruleset low = (power_by_shift, and_mask, pow_pos, mod_wide)
