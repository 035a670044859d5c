-- `solver::rounds::solve_in` meets its contract: ranks, attacks and replies are the game's.
use mathlib.Core.Bool.{true}
use mathlib.Core.Path.{◌∙◌}
use Rattle.solver.specs.Solution.{solution_of}
use Rattle.solver.proofs.Laws.Solved.{replies_end}
use Rattle.solver.proofs.rounds.solve_in.Goals as goal

pub returns : goal.returns
unfolding solution_of
returns c = let r = c.rounds.ensures.ended in
    let replies = rw c.rounds.ensures.same.0 at c.put_replies.ensures in
    λ x. record {
      ranks = r.ranks_are x;
      replies = (replies ∙ replies_end c.args.net.now c.rounds.result.ranks (c.requires (λ t. true)).sized r.ranks_are) x;
      attacks = r.attacks_are x;
    }
