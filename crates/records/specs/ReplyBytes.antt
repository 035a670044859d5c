-- The reply record (01, "The certificate", kind 3): replies, one byte each, at index s × 2^U + reading. Assumes nothing.
use Rattle.std.specs.Prelude.{ℕ, ◌+◌, ◌*◌, ◌/◌, ◌%◌, ◌^◌, List, get_or}
use Rattle.below.specs.Table.{table}

unfoldable pub reply_length : ℕ → ℕ → ℕ
reply_length L U = 2 ^ (L + U)

-- the stored reply; bits of state and reading above L and U aren't read; bytes that aren't there count as 0
unfoldable pub byte_reply : List ℕ → (L U state reading : ℕ) → ℕ
byte_reply bytes L U s r = get_or bytes (s % 2 ^ L * 2 ^ U + r % 2 ^ U) 0

-- the bytes that store replies
unfoldable pub reply_bytes : (ℕ → ℕ → ℕ) → ℕ → ℕ → List ℕ
reply_bytes replies L U = table (λ i. replies (i / 2 ^ U) (i % 2 ^ U)) (reply_length L U)
