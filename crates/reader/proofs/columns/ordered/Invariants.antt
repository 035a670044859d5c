-- What `reader::columns::ordered` keeps from turn to turn: so many rows are there. Assumes nothing.
use Rattle.reader.proofs.Laws.OrderLoop.{Sorting}
use Rattle.reader.proofs.columns.ordered.Given as goal

abbrev pub invariant-loop-k : goal.invariant-loop-k
invariant-loop-k l = Sorting l.rows l.order l.out l.k
