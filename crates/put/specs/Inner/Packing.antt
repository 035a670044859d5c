-- The numbers that are packed, and the bytes that they take (02, T-07). Assumes nothing.
use Rattle.std.specs.Prelude.{ℕ, List, get_or}
use Rattle.bits.specs.Packed.{packed_bytes}
use Rattle.put.specs.declared.packed.Packing.{Packing}

-- number k; one that isn't there counts as 0
abbrev pub number_of : Packing → ℕ → ℕ
number_of p k = get_or p.numbers.now k 0

abbrev pub bytes_of : Packing → List ℕ
bytes_of p = packed_bytes (number_of p) p.width p.n
