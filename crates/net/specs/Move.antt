-- A move: state, reading and control as one number, the control at its lowest bits, the state at its highest (01, "The game"). Bits above L,
-- U and C aren't read. Assumes nothing.
use Rattle.std.specs.Prelude.{ℕ, ◌+◌, ◌*◌, ◌%◌, ◌^◌}

unfoldable pub move_of : (L U C : ℕ) → (state reading control : ℕ) → ℕ
move_of L U C s r k = (s % 2 ^ L * 2 ^ U + r % 2 ^ U) * 2 ^ C + k % 2 ^ C
