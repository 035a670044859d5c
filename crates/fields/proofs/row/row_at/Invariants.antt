-- What `fields::row::row_at` keeps from turn to turn: so many numbers were read, up to a place. Assumes nothing.
use Rattle.fields.proofs.Laws.RowLoop.{Reading}
use Rattle.fields.proofs.row.row_at.Given as goal

abbrev pub invariant-loop-k : goal.invariant-loop-k
invariant-loop-k l = Reading l.s l.at l.here l.k l.numbers
