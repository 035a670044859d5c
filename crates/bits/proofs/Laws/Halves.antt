-- A number without its bits above a width, halved and as odd or even. Assumes nothing.
use Prim.Native.Nat.{ℕ, suc, ◌+◌, ◌*◌, ◌/◌, ◌%◌, ◌^◌}
use native.Mathlib.Omega.{arith}
use native.Mathlib.Nat.{pow-suc}
use mathlib.Core.Path.{◌≡◌, ap}
use lib.Arith.{mod-mul}
use lib.Dec.{eqb}
use lib.Pow.{pow_pos}
use Rattle.bits.specs.Bit.{odd}

parts : (n w : ℕ) → n % 2 ^ suc w ≡ n / 2 % 2 ^ w * 2 + n % 2
parts n w = rw (pow-suc, mod-mul n {m = 2 ^ w} {c = 2} (pow_pos w) (omega arith)) (omega arith)

pub half_mod : (n w : ℕ) → n % 2 ^ suc w / 2 ≡ n / 2 % 2 ^ w
half_mod n w = omega (arith, parts n w)

pub odd_mod : (n w : ℕ) → odd (n % 2 ^ suc w) ≡ odd n
unfolding odd
odd_mod n w = ap (λ (m : ℕ). eqb m 1) {x = n % 2 ^ suc w % 2} {y = n % 2} (omega (arith, parts n w))
