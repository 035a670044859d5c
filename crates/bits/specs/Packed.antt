-- Numbers of so many bits each, one behind the other, low bit first (02, T-07): number k fills the bits from bit k × width on. Assumes nothing.
use Rattle.std.specs.Prelude.{ℕ, ◌+◌, ◌*◌, ◌/◌, ◌%◌, Bool, List, eqb}
use Rattle.below.specs.Table.{table}
use Rattle.bits.specs.Bit.{bit}
use Rattle.bits.specs.BitBytes.{bit_bytes}
use Rattle.bits.specs.ByteBit.{byte_bit}
use Rattle.bits.specs.Digits.{sum}

-- number k of these bytes; bytes that aren't there count as 0
unfoldable pub packed_number : List ℕ → (width k : ℕ) → ℕ
packed_number bytes width k = sum 2 (table (λ j. byte_bit bytes (k * width + j)) width)

-- bit i of f 0, f 1, .. one behind the other
abbrev pub packed_bit : (ℕ → ℕ) → (width i : ℕ) → Bool
packed_bit f width i = eqb (bit (f (i / width)) (i % width)) 1

-- the bytes that hold the lowest bits of f 0, f 1, .. f (n − 1)
unfoldable pub packed_bytes : (ℕ → ℕ) → (width n : ℕ) → List ℕ
packed_bytes f width n = bit_bytes (packed_bit f width) (n * width)
