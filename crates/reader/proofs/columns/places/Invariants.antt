-- What `reader::columns::places` keeps from turn to turn: so many gates have their places. Assumes nothing.
use Rattle.reader.proofs.Laws.OrderLoop.{Standing}
use Rattle.reader.proofs.columns.places.Given as goal

abbrev pub invariant-loop-k : goal.invariant-loop-k
invariant-loop-k l = Standing l.order l.out l.k
