-- `solver::rooms::solvable` meets its contract: a net with too many inputs of a sort counts as the empty one.
use mathlib.Core.Path.{sym, ◌∙◌}
use Rattle.solver.proofs.Laws.Solved.{empty_sized, many_empty, few_itself, few_sized}
use Rattle.solver.proofs.rooms.solvable.Goals as goal

pub returns-then-too_many-clause-value : goal.returns-then-too_many-clause-value
returns-then-too_many-clause-value c =
    many_empty c.args.net.now c.requires _ _ c.readings.ensures c.controls.ensures (sym c.too_many.ensures ∙ c.if-too_many.true)

pub returns-then-too_many-clause-sized : goal.returns-then-too_many-clause-sized
returns-then-too_many-clause-sized c = empty_sized

pub returns-else-too_many-clause-value : goal.returns-else-too_many-clause-value
returns-else-too_many-clause-value c =
    few_itself c.args.net.now c.requires _ _ c.readings.ensures c.controls.ensures (sym c.too_many.ensures ∙ c.if-too_many.false)

pub returns-else-too_many-clause-sized : goal.returns-else-too_many-clause-sized
returns-else-too_many-clause-sized c =
    few_sized c.args.net.now c.requires _ _ c.readings.ensures c.controls.ensures (sym c.too_many.ensures ∙ c.if-too_many.false)
