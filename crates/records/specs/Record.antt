-- A record (01, "The certificate"): length first (4 bytes, little-endian, contents only), a two-byte kind, little-endian, then the
-- contents. Assumes nothing.
use Rattle.std.specs.Prelude.{ℕ, ◌+◌, cond, ◌&&◌, List, ◌++◌, leb, length, take, drop}
use Rattle.bits.specs.Digits.{digits, sum}

-- the five kinds
abbrev pub circuit_kind : ℕ
circuit_kind = 1

abbrev pub region_kind : ℕ
region_kind = 2

abbrev pub reply_kind : ℕ
reply_kind = 3

abbrev pub attack_kind : ℕ
attack_kind = 4

abbrev pub packed_kind : ℕ
packed_kind = 5

-- the bytes before the contents
abbrev pub head_length : ℕ
head_length = 6

unfoldable pub record_of : ℕ → List ℕ → List ℕ
record_of kind contents = digits 256 4 (length contents) ++ digits 256 2 kind ++ contents

-- the record that bytes begin with, and the bytes behind it; a record cut short is none
pub data Split : Type 0 where
  whole : (kind : ℕ) (contents rest : List ℕ) → Split
  cut : Split

unfoldable pub contents_length : List ℕ → ℕ
contents_length bytes = sum 256 (take 4 bytes)

unfoldable pub split : List ℕ → Split
split bytes =
    cond (leb head_length (length bytes) && leb (head_length + contents_length bytes) (length bytes))
    (whole (sum 256 (take 2 (drop 4 bytes)))
    (take (contents_length bytes) (drop head_length bytes))
    (drop (head_length + contents_length bytes) bytes))
    cut
