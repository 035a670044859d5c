-- `writer::written::put_record` puts the head and then the contents. Assumes nothing.
use Rattle.std.proofs.Common.{refl}
use Rattle.writer.proofs.Laws.Records.{added_record}
use Rattle.writer.proofs.written.put_record.Goals as goal

pub returns : goal.returns
returns c = added_record _ _ _ _ c.number.ensures refl c.put_head.ensures.out_after c.bytes.ensures c.bytes-2.ensures
