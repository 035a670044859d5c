-- A literal as a stored circuit has it: as it is where it is small enough, else 0; its variable is one of a circuit's. Assumes nothing.
use Prim.Native.Nat.{ℕ, ◌+◌, ◌*◌, ◌/◌, ◌<◌, ◌≤◌}
use native.Mathlib.Omega.{arith}
use native.Mathlib.Decide.{dec_lt}
use mathlib.Core.Path.{◌≡◌}
use borrow.Author.Tests.{lt-ltb, le-ltb}
use Rattle.circuit.specs.Limits.{base}
use Rattle.circuit.specs.Literal.{variable, too_large}
use Rattle.circuit.specs.Stored.{literal_of}

pub literal_small : (l : ℕ) → l ≤ 2 * base.variable + 1 → literal_of l ≡ l
unfolding literal_of too_large
literal_small l h = rw (le-ltb (2 * base.variable + 1) l h)

pub literal_large : (l : ℕ) → 2 * base.variable + 1 < l → literal_of l ≡ 0
unfolding literal_of too_large
literal_large l h = rw (lt-ltb (2 * base.variable + 1) l h)

pub variable_within : (l : ℕ) → variable (literal_of l) ≤ base.variable
unfolding variable
variable_within l = elim (dec_lt (2 * base.variable + 1) l) [ yes h ↦ omega (arith, literal_large l h) | no h ↦ small (omega arith) ]
  where
    small : l ≤ 2 * base.variable + 1 → literal_of l / 2 ≤ base.variable
    small h = omega (arith, literal_small l h)
