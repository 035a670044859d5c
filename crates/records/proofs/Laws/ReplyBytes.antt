-- What holds of a table of replies: each is read back, and one whose index lies behind every byte is 0. Assumes nothing.
use Prim.Native.Nat.{ℕ, ◌+◌, ◌*◌, ◌/◌, ◌%◌, ◌^◌, ◌<◌, ◌≤◌}
use native.Mathlib.Omega.{arith}
use native.Mathlib.Nat.{mod-lt, mul-le-mul_right}
use mathlib.Core.List.{List}
use mathlib.Core.Path.{◌≡◌, sym, ap, ap₂, ◌∙◌}
use lib.Arith.{digits_lt, digits_div, digits_mod}
use lib.ListN.{length, get_or, get_or-eq_default}
use lib.Pow.{pow-add, pow_pos, pow_mono}
use Rattle.below.proofs.Laws.Table.{get_or_table}
use Rattle.records.specs.ReplyBytes.{reply_length, byte_reply, reply_bytes}

-- the index of a state and a reading, and what stands there
module _ (L U s r : ℕ) where
  pub reply-place : s % 2 ^ L * 2 ^ U + r % 2 ^ U < 2 ^ (L + U)
  reply-place =
      omega (arith, pow-add 2 L U, digits_lt {q = s % 2 ^ L} {m = 2 ^ L} {r = r % 2 ^ U} {c = 2 ^ U} (mod-lt s (pow_pos L)) (mod-lt r (pow_pos U)))

  pub reply_there :
      (replies : ℕ → ℕ → ℕ)
      → replies ((s % 2 ^ L * 2 ^ U + r % 2 ^ U) / 2 ^ U) ((s % 2 ^ L * 2 ^ U + r % 2 ^ U) % 2 ^ U) ≡ replies (s % 2 ^ L) (r % 2 ^ U)
  reply_there replies = ap₂ replies (digits_div (s % 2 ^ L) (mod-lt r (pow_pos U))) (digits_mod (s % 2 ^ L) (mod-lt r (pow_pos U)))

  pub byte_reads : (replies : ℕ → ℕ → ℕ) → byte_reply (reply_bytes replies L U) L U s r ≡ replies (s % 2 ^ L) (r % 2 ^ U)
  unfolding byte_reply reply_bytes reply_length
  byte_reads replies =
      get_or_table (λ i. replies (i / 2 ^ U) (i % 2 ^ U)) (2 ^ (L + U)) (s % 2 ^ L * 2 ^ U + r % 2 ^ U) 0 reply-place ∙ reply_there replies

-- with so many readings only state 0 has a place among bytes that a list can hold
pub byte_reply_far : (bytes : List ℕ) (L U s r : ℕ) → 0 < s % 2 ^ L → 63 ≤ U → length bytes < 2 ^ 63 → byte_reply bytes L U s r ≡ 0
unfolding byte_reply
byte_reply_far bytes L U s r h l short =
    get_or-eq_default bytes 0 {n = s % 2 ^ L * 2 ^ U + r % 2 ^ U}
    (omega (arith, mul-le-mul_right {m = 1} {n = s % 2 ^ L} (2 ^ U) h, pow_mono {i = 63} {j = U} l))

-- a reply by its row and column
module _ (bytes : List ℕ) (L U s r row column : ℕ) (rows : row ≡ s % 2 ^ L) (columns : column ≡ r % 2 ^ U) where
  byte_reply_at : byte_reply bytes L U s r ≡ get_or bytes (row * 2 ^ U + column) 0
  unfolding byte_reply
  byte_reply_at = ap₂ (λ (a b : ℕ). get_or bytes (a * 2 ^ U + b) 0) (sym rows) (sym columns)

  pub byte_reply-first : row ≡ 0 → byte_reply bytes L U s r ≡ get_or bytes column 0
  byte_reply-first e = byte_reply_at ∙ ap (λ (n : ℕ). get_or bytes n 0) (ap (λ (m : ℕ). m * 2 ^ U + column) e ∙ omega arith)
