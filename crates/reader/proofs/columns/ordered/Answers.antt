-- `reader::columns::ordered` meets its contract: gate by gate. Assumes nothing.
use native.Mathlib.Omega.{arith}
use Rattle.reader.proofs.Laws.OrderLoop.{sorting_ends, order_long}
use Rattle.reader.proofs.columns.ordered.Goals as goal

pub returns : goal.returns
returns c =
    let a = c.args in
    let l = c.loop-k in
    sorting_ends a.rows.now a.order.now l.out l.k l.invariant (omega (arith, c.loop-k-test.false, l.auto.k-end))
    (omega (arith, order_long a.order.now _ c.requires.inside, c.requires.few))
