-- What holds of a packed table of replies (02, T-07), once for all C: every reply read from it equals the one of the byte table. Assumes nothing.
use Prim.Native.Nat.{ℕ, ◌+◌, ◌*◌, ◌/◌, ◌%◌, ◌^◌, ◌<◌}
use native.Mathlib.Nat.{mod-lt, mul_comm}
use mathlib.Core.Bool.{false}
use mathlib.Core.List.{List, []}
use mathlib.Core.Path.{◌≡◌, sym, ap, ◌∙◌, subst}
use lib.ListN.{length}
use lib.Pow.{pow_pos}
use Rattle.bits.specs.BitBytes.{unused_bit}
use Rattle.bits.proofs.Laws.Packed.{packed_reads, packed_below, packed_length_lem, packed_no_unused, packed_zero}
use Rattle.records.specs.PackedReplies.{packed_length, packed_reply, packed_reply_bytes}
use Rattle.records.specs.ReplyBytes.{byte_reply, reply_bytes}
use Rattle.records.proofs.Laws.ReplyBytes.{reply-place, reply_there, byte_reads}

module _ (replies : ℕ → ℕ → ℕ) (L U C : ℕ) where
  module _ (small : (s r : ℕ) → s < 2 ^ L → r < 2 ^ U → replies s r < 2 ^ C) (s r : ℕ) where
    pub packed_replies_read : packed_reply (packed_reply_bytes replies L U C) L U C s r ≡ replies (s % 2 ^ L) (r % 2 ^ U)
    unfolding packed_reply packed_reply_bytes
    packed_replies_read =
        packed_reads (λ i. replies (i / 2 ^ U) (i % 2 ^ U)) C (2 ^ (L + U)) (s % 2 ^ L * 2 ^ U + r % 2 ^ U) (reply-place L U s r)
        (subst (λ (n : ℕ). n < 2 ^ C) (sym (reply_there L U s r replies)) (small (s % 2 ^ L) (r % 2 ^ U) (mod-lt s (pow_pos L)) (mod-lt r (pow_pos U))))
        ∙ reply_there L U s r replies

    pub packed_reads_as_bytes : packed_reply (packed_reply_bytes replies L U C) L U C s r ≡ byte_reply (reply_bytes replies L U) L U s r
    packed_reads_as_bytes = packed_replies_read ∙ sym (byte_reads L U s r replies)

  pub length_packed : length (packed_reply_bytes replies L U C) ≡ packed_length L U C
  unfolding packed_reply_bytes packed_length
  length_packed = packed_length_lem (λ i. replies (i / 2 ^ U) (i % 2 ^ U)) C (2 ^ (L + U)) ∙ ap (λ (n : ℕ). (n + 7) / 8) (mul_comm (2 ^ (L + U)) C)

  pub packed_unused : unused_bit (packed_reply_bytes replies L U C) (C * 2 ^ (L + U)) ≡ false
  unfolding packed_reply_bytes
  packed_unused =
      ap (λ (n : ℕ). unused_bit (packed_reply_bytes replies L U C) n) (mul_comm C (2 ^ (L + U)))
      ∙ packed_no_unused (λ i. replies (i / 2 ^ U) (i % 2 ^ U)) C (2 ^ (L + U))

-- without controllable inputs it is empty
pub packed_empty : (replies : ℕ → ℕ → ℕ) (L U : ℕ) → packed_reply_bytes replies L U 0 ≡ []
unfolding packed_reply_bytes
packed_empty replies L U = packed_zero (λ i. replies (i / 2 ^ U) (i % 2 ^ U)) (2 ^ (L + U))

pub packed_reply_below : (bytes : List ℕ) (L U C s r : ℕ) → packed_reply bytes L U C s r < 2 ^ C
unfolding packed_reply
packed_reply_below bytes L U C s r = packed_below bytes C (s % 2 ^ L * 2 ^ U + r % 2 ^ U)
