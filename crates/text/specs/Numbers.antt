-- The numbers of a file's refusals (01, "The numbers", 1 to 9; 02, T-01). Assumes nothing.
use Rattle.std.specs.Prelude.{ℕ}

abbrev pub file_too_long : ℕ
file_too_long = 1

abbrev pub bad_header : ℕ
bad_header = 2

abbrev pub header_limit : ℕ
header_limit = 3

abbrev pub bad_line : ℕ
bad_line = 4

abbrev pub bad_literal : ℕ
bad_literal = 5

abbrev pub defined_twice : ℕ
defined_twice = 6

abbrev pub not_defined : ℕ
not_defined = 7

abbrev pub bad_symbol : ℕ
bad_symbol = 8

abbrev pub too_many_inputs : ℕ
too_many_inputs = 9

abbrev pub gate_circle : ℕ
gate_circle = 16
