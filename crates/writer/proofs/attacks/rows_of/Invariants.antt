-- Each turn one more row stands behind those before it. Assumes nothing.
use Rattle.std.proofs.Common.{◌*◌, get_or}
use Rattle.bits.specs.InTurn.{in_turn}
use Rattle.bits.specs.Wrote.{Wrote}
use Rattle.writer.specs.Inner.Rows.{attack_row}
use Rattle.writer.proofs.attacks.rows_of.Given as goal

abbrev pub invariant-loop-s : goal.invariant-loop-s
invariant-loop-s l =
    Wrote (in_turn (attack_row (λ s. get_or l.solution.ranks s 0) (λ s. get_or l.solution.attacks s 0)) l.s) 0 l.initial.rows l.rows (3 * l.s)
