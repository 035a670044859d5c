-- The head of a record (01, "The certificate"): the length of its contents in four bytes, then its kind in two, both little-endian.
-- Assumes nothing.
use Rattle.std.specs.Prelude.{ℕ, List, ◌++◌}
use Rattle.bits.specs.Digits.{digits}

abbrev pub head_of : (kind length : ℕ) → List ℕ
head_of kind n = digits 256 4 n ++ digits 256 2 kind
