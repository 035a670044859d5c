-- What `Rest::defined` keeps from turn to turn: so many lines use what is marked. Assumes nothing.
use Prim.Native.Nat.{◌+◌}
use Rattle.below.specs.Table.{table}
use Rattle.lines.specs.Inner.Headed.{said}
use Rattle.reader.specs.Inner.Rows.{late_at}
use Rattle.reader.proofs.Laws.UsedLoop.{Known}
use Rattle.reader.proofs.rest.Rest.defined.Given as goal

abbrev pub invariant-loop-k : goal.invariant-loop-k
invariant-loop-k l =
    let h = l.self.header in
    Known l.body.defined (table (late_at (said h) l.body.rows) (h.latches + 1 + h.gates)) l.k
