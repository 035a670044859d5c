-- `checker::replies::ReplyTables::bad_replies` meets its contract: length and unused bits by the kind. Assumes nothing.
use Rattle.std.proofs.Common.{arith}
use Rattle.std.proofs.lemmas.Grind.{common_steps}
use Rattle.records.specs.PackedReplies.{packed_length}
use Rattle.records.specs.ReplyBytes.{reply_length}
use Rattle.records.specs.ReplyTable.{table_length, unused_reply_bit}
use Rattle.checker.proofs.replies.ReplyTables.bad_replies.Goals as goal

pub returns-in-Bytes : goal.returns-in-Bytes
unfolding table_length unused_reply_bit reply_length
returns-in-Bytes c = grind (arith, common_steps)

pub returns-then-self-div_ceil : goal.returns-then-self-div_ceil
unfolding table_length unused_reply_bit packed_length
returns-then-self-div_ceil c = grind (arith, common_steps)

pub returns-else-self-div_ceil : goal.returns-else-self-div_ceil
unfolding table_length unused_reply_bit packed_length
returns-else-self-div_ceil c = grind (arith, common_steps)
