-- What `Rest::definers` keeps from turn to turn: so many gates are entered. Assumes nothing.
use Prim.Native.Nat.{◌+◌}
use Rattle.reader.proofs.Laws.DefinersLoop.{Entered}
use Rattle.reader.proofs.rest.Rest.definers.Given as goal

abbrev pub invariant-loop-j : goal.invariant-loop-j
invariant-loop-j l = Entered l.body.rows (l.self.header.inputs + l.self.header.latches + 1) l.definers l.j
