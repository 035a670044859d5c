-- What `Rest::body` keeps from turn to turn: what is left of the lines equals the whole. Assumes nothing.
use Rattle.lines.specs.Inner.Headed.{said}
use Rattle.reader.proofs.Laws.BodyLoop.{Looping}
use Rattle.reader.proofs.rest.Rest.body.Given as goal

abbrev pub invariant-loop-j : goal.invariant-loop-j
invariant-loop-j l = Looping (said l.h) l.self.bytes.now l.defined l.rows l.at l.j-counter
