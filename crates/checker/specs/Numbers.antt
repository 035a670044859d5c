-- The numbers of the checker's refusals (01, "The numbers", 11 to 15). Assumes nothing.
use Rattle.std.specs.Prelude.{ℕ}

abbrev pub bad_shape : ℕ
bad_shape = 11

abbrev pub other_circuit : ℕ
other_circuit = 12

abbrev pub bad_table : ℕ
bad_table = 13

abbrev pub bad_reset : ℕ
bad_reset = 14

abbrev pub broken_step : ℕ
broken_step = 15

-- of a kind that is retired (02, T-09): none is
abbrev pub retired_kind : ℕ
retired_kind = 21
