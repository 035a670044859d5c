-- The table of replies by the kind of its record (01, kind 3; 02, T-07, kind 5). Assumes nothing.
use Rattle.std.specs.Prelude.{ℕ, ◌+◌, ◌*◌, ◌^◌, Bool, cond, ◌&&◌, List, eqb}
use Rattle.bits.specs.BitBytes.{unused_bit}
use Rattle.records.specs.Record.{packed_kind}
use Rattle.records.specs.PackedReplies.{packed_length, packed_reply, packed_reply_bytes}
use Rattle.records.specs.ReplyBytes.{reply_length, byte_reply, reply_bytes}

unfoldable pub table_length : (kind L U C : ℕ) → ℕ
table_length kind L U C = cond (eqb kind packed_kind) (packed_length L U C) (reply_length L U)

unfoldable pub stored_reply : (kind : ℕ) → List ℕ → (L U C state reading : ℕ) → ℕ
stored_reply kind bytes L U C s r = cond (eqb kind packed_kind) (packed_reply bytes L U C s r) (byte_reply bytes L U s r)

-- some bit of these bytes that stands for no reply is 1
unfoldable pub unused_reply_bit : (kind : ℕ) → List ℕ → (L U C : ℕ) → Bool
unused_reply_bit kind bytes L U C = eqb kind packed_kind && unused_bit bytes (C * 2 ^ (L + U))

-- the bytes that store replies
unfoldable pub table_bytes : (kind : ℕ) → (ℕ → ℕ → ℕ) → (L U C : ℕ) → List ℕ
table_bytes kind replies L U C = cond (eqb kind packed_kind) (packed_reply_bytes replies L U C) (reply_bytes replies L U)
