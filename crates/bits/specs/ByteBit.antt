-- Bit i of a list of bytes: bit i mod 8 of byte i div 8 (01, "The certificate", kind 2). Bytes that aren't there count as 0. Assumes nothing.
use Rattle.std.specs.Prelude.{ℕ, ◌/◌, ◌%◌, Bool, List, get_or, set}
use Rattle.bits.specs.Bit.{bit, with_bit}

unfoldable pub byte_bit : List ℕ → ℕ → ℕ
byte_bit bytes i = bit (get_or bytes (i / 8) 0) (i % 8)

-- the bytes with another bit i; a bit that isn't there stays
unfoldable pub with_byte_bit : List ℕ → ℕ → Bool → List ℕ
with_byte_bit bytes i b = set bytes (i / 8) (with_bit (get_or bytes (i / 8) 0) (i % 8) b)
