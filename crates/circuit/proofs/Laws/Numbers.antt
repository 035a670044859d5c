-- How many numbers n bits make, where a state may have so many. Assumes nothing.
use Prim.Native.Nat.{ℕ, ◌^◌, ◌≤◌, min}
use native.Mathlib.Omega.{arith}
use mathlib.Core.Path.{◌≡◌, ap}
use Rattle.circuit.specs.Limits.{base}

pub numbers-whole : (n : ℕ) → n ≤ base.latches → 2 ^ min n base.latches ≡ 2 ^ n
numbers-whole n h = ap (λ (m : ℕ). 2 ^ m) {x = min n base.latches} {y = n} (omega arith)
