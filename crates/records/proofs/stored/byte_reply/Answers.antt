-- `records::stored::byte_reply` meets its contract: an index that would not fit lies behind every byte. Assumes nothing.
use Rattle.std.proofs.Common.{sym, arith}
use Rattle.records.proofs.Laws.ReplyBytes.{byte_reply_far}
use Rattle.records.proofs.stored.byte_reply.Goals as goal

pub returns-then-readings-ge63 : goal.returns-then-readings-ge63
returns-then-readings-ge63 c =
    let a = c.args in
    sym (byte_reply_far a.bytes.now a.latches a.readings a.state a.reading (omega (arith, c.low_bits-s.ensures)) (omega arith) (omega arith))
