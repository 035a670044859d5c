-- `solver::solve` meets its contract: the net of a circuit plays the circuit's game.
use mathlib.Core.List.{List}
use Prim.Native.Nat.{ℕ}
use mathlib.Core.Path.{ap, ◌∙◌}
use Rattle.std.proofs.Common.{rules}
use Rattle.circuit.specs.Stored.{meant}
use Rattle.game.specs.NetGame.{net_game}
use Rattle.net.proofs.Laws.InOrder.{Room}
use Rattle.net.proofs.Laws.Lent.{meant_room, lent_net, lent_in_order}
use Rattle.solver.specs.Inner.SolvableNet.{solvable_net}
use Rattle.solver.specs.Solution.{solution_of}
use Rattle.solver.proofs.Laws.Solved.{solvable_game}
use Rattle.solver.proofs.solve.Goals as goal
use Rattle.solver.proofs.solve.Goals.{Start}

room : (s : Start) → Room (meant s.args.c)
room s = meant_room s.args.c (search rules) (search rules)

pub solve_net-requires : goal.solve_net-requires
solve_net-requires c =
    rw c.as_slice.ensures (lent_in_order (meant c.args.c) (room (goal.at.solve_net-requires c).Start) c.make.result c.make.ensures)

pub returns : goal.returns
returns c = let m = meant c.args.c in
    c.solve_net.ensures
    ∙ ap (λ (l : List ℕ). solution_of (net_game (solvable_net l)))
    (c.as_slice.ensures ∙ lent_net m (room (goal.at.returns c).Start) c.make.result c.make.ensures)
    ∙ ap solution_of (solvable_game m)
