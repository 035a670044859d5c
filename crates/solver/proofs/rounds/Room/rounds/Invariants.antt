-- What `solver::rounds::Room::rounds` keeps from turn to turn: the ranks are those after k rounds, and the attacks stand beside them.
use Prim.Native.Nat.{◌^◌}
use Rattle.game.specs.NetGame.{net_game}
use Rattle.game.specs.Rank.{not_ranked}
use Rattle.keeping.specs.RankList.{ranks_in}
use Rattle.net.specs.Net.{net_latches}
use Rattle.solver.specs.Inner.Search.{SameRoom, KeptIn}
use Rattle.solver.proofs.Laws.Attacks.{AttacksAre}
use Rattle.solver.proofs.Laws.RankTable.{Ranked}
use Rattle.solver.proofs.rounds.Room.rounds.Given as goal

abbrev pub invariant-loop-k : goal.invariant-loop-k
invariant-loop-k l = let net = l.initial.self.net.now in record {
  ranked : Ranked (net_game net) (2 ^ net_latches net) l.k l.ranks;
  attacks : AttacksAre (net_game net) l.ranks l.attacks;
  same : SameRoom l.initial.self l.self;
  kept : KeptIn l.self (not_ranked (ranks_in l.ranks) l.k);
}
