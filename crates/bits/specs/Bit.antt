-- Bit k of a number, 0 or 1 (01, "The game" and "The certificate"). Assumes nothing.
use Rattle.std.specs.Prelude.{ℕ, ◌+◌, ◌*◌, ◌-◌, ◌/◌, ◌%◌, ◌^◌, Bool, cond, eqb}

unfoldable pub bit : ℕ → ℕ → ℕ
bit n k = n / 2 ^ k % 2

-- a bit as a truth, and a truth as a bit
unfoldable pub odd : ℕ → Bool
odd n = eqb (n % 2) 1

unfoldable pub one_if : Bool → ℕ
one_if b = cond b 1 0

-- n with another bit k
unfoldable pub with_bit : ℕ → ℕ → Bool → ℕ
unfolding bit
with_bit n k b = n - bit n k * 2 ^ k + one_if b * 2 ^ k
