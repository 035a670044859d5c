-- `reader::columns::places` meets its contract: gate by gate. Assumes nothing.
use native.Mathlib.Omega.{arith}
use Rattle.reader.proofs.Laws.OrderLoop.{standing_starts, standing_more, standing_ends}
use Rattle.reader.proofs.columns.places.Goals as goal

pub loop-k-init : goal.loop-k-init
loop-k-init c = standing_starts c.args.order.now c.requires.all c.requires.few c.filled-out.result c.filled-out.ensures

pub loop-k-preserved : goal.loop-k-preserved
loop-k-preserved c =
    let l = c.loop-k in
    standing_more c.args.order.now c.requires.all c.requires.few l.out l.k l.invariant c.loop-k-test.true c.from.result c.from.ensures

pub returns : goal.returns
returns c =
    let l = c.loop-k in
    standing_ends c.args.order.now c.requires.all c.requires.few l.out l.k l.invariant (omega (arith, c.loop-k-test.false, l.auto.k-end))
