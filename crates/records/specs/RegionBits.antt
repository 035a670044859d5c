-- The region record (01, "The certificate", kind 2): state s at bit s mod 8 of byte s div 8; 2^L bits, unused bits 0, at least one byte.
-- Assumes nothing.
use Rattle.std.specs.Prelude.{ℕ, ◌+◌, ◌/◌, ◌%◌, ◌^◌, Bool, List, eqb}
use Rattle.bits.specs.BitBytes.{bit_bytes, unused_bit}
use Rattle.bits.specs.ByteBit.{byte_bit}

-- ceil(2^L / 8)
unfoldable pub region_length : ℕ → ℕ
region_length L = (2 ^ L + 7) / 8

-- the stored region holds state s of L latches; bits of s above L aren't read; bytes that aren't there count as 0
unfoldable pub holds_state : List ℕ → ℕ → (state : ℕ) → Bool
holds_state bytes L s = eqb (byte_bit bytes (s % 2 ^ L)) 1

-- some bit of these bytes that stands for no state is 1
unfoldable pub unused_bit_set : List ℕ → ℕ → Bool
unused_bit_set bytes L = unused_bit bytes (2 ^ L)

-- the bytes that store a set of states
unfoldable pub region_bytes : (ℕ → Bool) → ℕ → List ℕ
region_bytes set L = bit_bytes set (2 ^ L)
