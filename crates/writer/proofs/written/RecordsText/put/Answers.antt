-- The records are put one by one. Assumes nothing.
use Rattle.writer.proofs.Laws.Records.{records_none, records_more}
use Rattle.writer.proofs.written.RecordsText.put.Goals as goal

pub loop-kind-init : goal.loop-kind-init
loop-kind-init c = records_none _

pub loop-kind-preserved : goal.loop-kind-preserved
loop-kind-preserved c = records_more _ _ _ c.loop-kind-test.true c.loop-kind.invariant c.put_record.ensures
