-- Literals (01, "The file", rule 3): 2v means variable v and 2v + 1 its inverse; 0 is false, 1 true. Assumes nothing.
use Rattle.std.specs.Prelude.{ℕ, ◌+◌, ◌*◌, ◌/◌, ◌%◌, Bool, ◌&&◌, eqb, leb, ltb}
use Rattle.bits.specs.Bit.{odd}

-- the variable that a literal speaks of
unfoldable pub variable : ℕ → ℕ
variable l = l / 2

unfoldable pub inverted : ℕ → Bool
inverted l = odd l

-- 0 and 1, false and true
unfoldable pub constant : ℕ → Bool
constant l = ltb l 2

-- a literal that defines is even and at least 2
unfoldable pub may_define : ℕ → Bool
may_define l = eqb (l % 2) 0 && leb 2 l

-- every literal is at most 2M + 1
unfoldable pub too_large : ℕ → ℕ → Bool
too_large M l = ltb (2 * M + 1) l
