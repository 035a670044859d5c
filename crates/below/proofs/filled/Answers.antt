-- `below::filled` meets its contract.
use Rattle.below.proofs.Laws.Filled.{replicate_table}
use Rattle.below.proofs.filled.Goals as goal

pub returns : goal.returns
returns g c = replicate_table g.row.N c.args.item
