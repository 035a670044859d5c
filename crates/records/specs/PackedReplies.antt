-- The packed reply record (02, T-07, kind 5): reply k, at index s × 2^U + reading, fills C bits from bit k × C on, low bit first; unused bits 0.
-- Assumes nothing.
use Rattle.std.specs.Prelude.{ℕ, ◌+◌, ◌*◌, ◌/◌, ◌%◌, ◌^◌, List}
use Rattle.bits.specs.Packed.{packed_number, packed_bytes}

-- ceil(C × 2^(L+U) / 8)
unfoldable pub packed_length : (L U C : ℕ) → ℕ
packed_length L U C = (C * 2 ^ (L + U) + 7) / 8

-- the stored reply; bits of state and reading above L and U aren't read; bytes that aren't there count as 0
unfoldable pub packed_reply : List ℕ → (L U C state reading : ℕ) → ℕ
packed_reply bytes L U C s r = packed_number bytes C (s % 2 ^ L * 2 ^ U + r % 2 ^ U)

-- the bytes that store replies
unfoldable pub packed_reply_bytes : (ℕ → ℕ → ℕ) → (L U C : ℕ) → List ℕ
packed_reply_bytes replies L U C = packed_bytes (λ i. replies (i / 2 ^ U) (i % 2 ^ U)) C (2 ^ (L + U))
