-- What holds of a table of replies of either kind: each reply is read back, the table has its length and no unused bit is 1. Assumes nothing.
use Prim.Native.Nat.{ℕ, ◌+◌, ◌*◌, ◌%◌, ◌^◌, ◌<◌}
use mathlib.Core.Bool.{Bool, true, false, cond, ◌&&◌}
use mathlib.Core.List.{List}
use mathlib.Core.Path.{◌≡◌, refl}
use borrow.Author.Tests.{eq-eqb, ne_eqb}
use lib.Dec.{eqb}
use lib.ListN.{length}
use Rattle.bits.specs.BitBytes.{unused_bit}
use Rattle.records.specs.PackedReplies.{packed_length, packed_reply, packed_reply_bytes}
use Rattle.records.specs.Record.{packed_kind}
use Rattle.records.specs.ReplyBytes.{reply_length, byte_reply, reply_bytes}
use Rattle.records.specs.ReplyTable.{table_length, stored_reply, unused_reply_bit, table_bytes}
use Rattle.records.proofs.Laws.Lengths.{length_replies}
use Rattle.records.proofs.Laws.PackedReplies.{packed_replies_read, length_packed, packed_unused}
use Rattle.records.proofs.Laws.ReplyBytes.{byte_reads}

-- by the kind
module _ (kind : ℕ) (bytes : List ℕ) (L U C s r : ℕ) where
  pub stored_packed : kind ≡ packed_kind → stored_reply kind bytes L U C s r ≡ packed_reply bytes L U C s r
  unfolding stored_reply
  stored_packed e = rw (eq-eqb kind packed_kind e)

  pub stored_byte : (kind ≡ packed_kind → ⊥) → stored_reply kind bytes L U C s r ≡ byte_reply bytes L U s r
  unfolding stored_reply
  stored_byte d = rw (ne_eqb kind packed_kind d)

module _ (kind : ℕ) (replies : ℕ → ℕ → ℕ) (L U C : ℕ) where
  pub table_reads :
      ((s r : ℕ) → s < 2 ^ L → r < 2 ^ U → replies s r < 2 ^ C) → (s r : ℕ)
      → stored_reply kind (table_bytes kind replies L U C) L U C s r ≡ replies (s % 2 ^ L) (r % 2 ^ U)
  unfolding stored_reply table_bytes
  table_reads small s r = by (eqb kind packed_kind)
    where
      stored : Bool → List ℕ
      stored b = cond b (packed_reply_bytes replies L U C) (reply_bytes replies L U)

      by : (b : Bool) → cond b (packed_reply (stored b) L U C s r) (byte_reply (stored b) L U s r) ≡ replies (s % 2 ^ L) (r % 2 ^ U)
      by true = packed_replies_read replies L U C small s r
      by false = byte_reads L U s r replies

  pub length-table_bytes : length (table_bytes kind replies L U C) ≡ table_length kind L U C
  unfolding table_bytes table_length
  length-table_bytes = by (eqb kind packed_kind)
    where
      by : (b : Bool) → length (cond b (packed_reply_bytes replies L U C) (reply_bytes replies L U)) ≡ cond b (packed_length L U C) (reply_length L U)
      by true = length_packed replies L U C
      by false = length_replies replies L U

  pub table_unused : unused_reply_bit kind (table_bytes kind replies L U C) L U C ≡ false
  unfolding unused_reply_bit table_bytes
  table_unused = by (eqb kind packed_kind)
    where
      by : (b : Bool) → (b && unused_bit (cond b (packed_reply_bytes replies L U C) (reply_bytes replies L U)) (C * 2 ^ (L + U))) ≡ false
      by true = packed_unused replies L U C
      by false = refl
