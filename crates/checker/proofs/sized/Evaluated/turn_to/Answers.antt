-- Another block is evaluated. Assumes nothing.
use Rattle.std.proofs.lemmas.Grind.{merely}
use Rattle.checker.proofs.Laws.Held.{evaluated_holds}
use Rattle.checker.proofs.sized.Evaluated.turn_to.Goals as goal

pub invariant_of-self : goal.invariant_of-self
invariant_of-self c = record { holding = merely (evaluated_holds _ _ _ _ c.evaluate.ensures) }
