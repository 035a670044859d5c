-- A new block is evaluated. Assumes nothing.
use Rattle.std.proofs.lemmas.Grind.{merely}
use Rattle.checker.proofs.Laws.Held.{evaluated_holds}
use Rattle.checker.proofs.sized.Evaluated.new.Goals as goal

pub invariant_of-result : goal.invariant_of-result
invariant_of-result c = record { holding = merely (evaluated_holds _ _ _ _ c.evaluate.ensures) }
