-- A list of bytes made of n bits by a function (01, "The certificate", kind 2): bit i stands at bit i mod 8 of byte i div 8; ceil(n / 8)
-- bytes, unused bits 0. Assumes nothing.
use Rattle.std.specs.Prelude.{ℕ, ◌+◌, ◌*◌, ◌/◌, Bool, ◌&&◌, List, eqb, leb, ltb, length}
use Rattle.below.specs.Least.{any}
use Rattle.below.specs.Table.{table}
use Rattle.bits.specs.Bit.{one_if}
use Rattle.bits.specs.ByteBit.{byte_bit}
use Rattle.bits.specs.Digits.{sum}

-- eight bits from bit 8 × j on, the first of them lowest; those from bit n on are 0
unfoldable pub bit_byte : (ℕ → Bool) → (n j : ℕ) → ℕ
bit_byte f n j = sum 2 (table (λ k. one_if (ltb (8 * j + k) n && f (8 * j + k))) 8)

unfoldable pub bit_bytes : (ℕ → Bool) → (n : ℕ) → List ℕ
bit_bytes f n = table (bit_byte f n) ((n + 7) / 8)

-- some bit from bit n on is 1
unfoldable pub unused_bit : List ℕ → (n : ℕ) → Bool
unused_bit bytes n = any (λ i. leb n i && eqb (byte_bit bytes i) 1) (8 * length bytes)
