-- What holds of a lane: and, inverse, all and none. A lane is a bit of its word, so all of it is what std says of bits. Assumes nothing.
use Prim.Native.Nat.{ℕ, zero, suc, ◌-◌, ◌^◌, ◌<◌, ◌≤◌, min}
use native.Mathlib.Omega.{arith}
use mathlib.Core.Bool.{true, false, not, ◌&&◌}
use mathlib.Core.Path.{◌≡◌, refl}
use lib.Bits.{bit_and}
use lib.Dec.{eqb}
use mir.Syntax.{w64}
use Rattle.std.specs.Int.{bit_at}
use Rattle.std.proofs.lemmas.Nat.Bits.{bit_at-zero, bit_at_above, bit_at_and, bit_at_not, bit_at_ones, bit_at-lt}
use Rattle.bits.specs.Bit.{odd}
use Rattle.blocks.specs.Lane.{width, lane}

pub lane_is : (w j : ℕ) → eqb (bit_at w j) 1 ≡ lane w j
unfolding lane odd
lane_is w j = refl

pub lane_none : (j : ℕ) → lane 0 j ≡ false
lane_none j = rw (← lane_is 0 j, bit_at-zero j)

-- a word has no lane behind its last
pub lane_past : (w j : ℕ) → w < 2 ^ width → width ≤ j → lane w j ≡ false
lane_past w j h l = rw (← lane_is w j, bit_at_above w width j h l)

both_one : (x y : ℕ) → x < 2 → y < 2 → eqb (min x y) 1 ≡ (eqb x 1 && eqb y 1)
both_one zero zero h l = refl
both_one zero (suc zero) h l = refl
both_one zero (suc (suc y)) h l = absurd (omega arith)
both_one (suc zero) zero h l = refl
both_one (suc zero) (suc zero) h l = refl
both_one (suc zero) (suc (suc y)) h l = absurd (omega arith)
both_one (suc (suc x)) y h l = absurd (omega arith)

pub lane_and : (a b j : ℕ) → lane (bit_and a b) j ≡ (lane a j && lane b j)
lane_and a b j =
    rw (← lane_is (bit_and a b) j, ← lane_is a j, ← lane_is b j, bit_at_and a b j) (both_one (bit_at a j) (bit_at b j) (bit_at-lt a j) (bit_at-lt b j))

other_one : (x : ℕ) → x < 2 → eqb (1 - x) 1 ≡ not (eqb x 1)
other_one zero h = refl
other_one (suc zero) h = refl
other_one (suc (suc x)) h = absurd (omega arith)

pub lane-other : (a j : ℕ) → a < 2 ^ width → j < width → lane (2 ^ width - 1 - a) j ≡ not (lane a j)
lane-other a j h l = rw (← lane_is (2 ^ width - 1 - a) j, ← lane_is a j, bit_at_not w64 a j h l) (other_one (bit_at a j) (bit_at-lt a j))

pub lane_all : (j : ℕ) → j < width → lane (2 ^ width - 1) j ≡ true
lane_all j h = rw (← lane_is (2 ^ width - 1) j, bit_at_ones width j h)
