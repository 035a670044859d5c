-- The replies that a passed certificate stores from the start of its table on, by its kind (01, kind 3; 02, T-07, kind 5). In a packed table
-- counts above a circuit's limits count as those. Assumes nothing.
use Rattle.std.specs.Prelude.{ℕ, min, cond, List, eqb}
use Rattle.circuit.specs.Limits.{base}
use Rattle.records.specs.PackedReplies.{packed_reply}
use Rattle.records.specs.Record.{packed_kind}
use Rattle.records.specs.ReplyBytes.{byte_reply}
use Rattle.capi.specs.declared.CheckAnswer.{CheckAnswer}

unfoldable pub stored_of : (passed : CheckAnswer) → (table : List ℕ) → (state reading : ℕ) → ℕ
stored_of passed table s r =
    cond (eqb passed.kind packed_kind)
    (packed_reply table (min passed.latches base.latches) (min passed.readings base.uncontrollable)
    (min passed.controls base.controllable) s r)
    (byte_reply table passed.latches passed.readings s r)
