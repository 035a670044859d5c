-- `listing::list` meets its contract: reading, then the listing of the circuit that was read, or the refusal. Assumes nothing.
use Rattle.listing.proofs.Laws.Front.{front_listed, front_refused}
use Rattle.listing.proofs.list.Goals as goal

pub returns-in-Ok : goal.returns-in-Ok
returns-in-Ok c =
    front_listed c.args.file.now c.read.result c.read.ensures c.args.out.now _ _ c.in-Ok.circuit _ c.counts-counts.result c.solve-solution.result c.in-Ok.is
    c.lent.ensures c.counts-counts.ensures c.solve-solution.ensures c.fit.ensures

pub returns-in-Err : goal.returns-in-Err
returns-in-Err c = front_refused c.args.file.now c.read.result c.read.ensures c.args.out.now _ _ c.in-Err.refusal c.in-Err.is c.fit-in-Err.ensures
