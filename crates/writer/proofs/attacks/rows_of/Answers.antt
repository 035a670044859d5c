-- `writer::attacks::rows_of` stores a row for each state, one behind the other. Assumes nothing.
use Rattle.writer.proofs.Laws.Rows.{no_rows, one_row_more}
use Rattle.writer.proofs.attacks.rows_of.Goals as goal

pub loop-s-init : goal.loop-s-init
loop-s-init c = no_rows _ _ _

pub loop-s-preserved : goal.loop-s-preserved
loop-s-preserved c =
    one_row_more _ _ c.loop-s.s c.loop-s.invariant c.put_row.ensures
