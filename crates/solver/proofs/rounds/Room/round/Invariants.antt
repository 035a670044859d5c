-- What `solver::rounds::Room::round` keeps from turn to turn: what is passed is as the round says, the rest as before.
use lib.ListN.{get_or}
use Rattle.below.proofs.Laws.Filled.{Filled}
use Rattle.game.specs.NetGame.{net_game}
use Rattle.game.specs.Rank.{round as round_of}
use Rattle.keeping.specs.RankList.{ranks_in}
use Rattle.solver.specs.Inner.AttacksAfter.{attack_after}
use Rattle.solver.specs.Inner.Search.{Same}
use Rattle.solver.proofs.rounds.Room.round.Given as goal

abbrev pub invariant-loop-state : goal.invariant-loop-state
invariant-loop-state l = let g = net_game l.initial.search.net.now in record {
  ranks : Filled (round_of g l.k (ranks_in l.fn.ranks)) l.fn.ranks l.state l.after;
  attacks : Filled (λ j. attack_after g l.k l.fn.ranks (get_or l.initial.attacks j 0) j) l.initial.attacks l.state l.attacks;
  same : Same l.initial.search l.search;
}
