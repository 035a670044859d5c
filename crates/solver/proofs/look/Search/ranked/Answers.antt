-- `solver::look::Search::ranked` meets its contract: a rank once given stays, and its attack; another is given exactly if some reading defeats,
-- the least one.
use Rattle.keeping.specs.RankList.{ranks_in}
use Rattle.game.specs.NetGame.{net_game}
use Rattle.solver.proofs.Laws.Attacks.{attack-kept, attack_new, attack_none}
use Rattle.solver.proofs.Laws.RankTable.{rank-kept, rank-given, rank_none}
use Rattle.solver.proofs.look.Search.ranked.Goals as goal

pub returns-then-rank-gt0-clause-rank : goal.returns-then-rank-gt0-clause-rank
returns-then-rank-gt0-clause-rank c = let s = c.args.self.now in
    rank-kept (net_game s.net.now) s.set.bound (ranks_in s.set.ranks.now) c.args.state _ c.rank_at-rank.ensures c.if-rank-gt0.true

pub returns-then-rank-gt0-clause-attack : goal.returns-then-rank-gt0-clause-attack
returns-then-rank-gt0-clause-attack c = let s = c.args.self.now in
    attack-kept (net_game s.net.now) s.set.bound s.set.ranks.now c.args.attack c.args.state _ c.rank_at-rank.ensures c.if-rank-gt0.true

pub returns-in-Some-clause-rank : goal.returns-in-Some-clause-rank
unfolding net_game
returns-in-Some-clause-rank c = let s = c.args.self.now in
    rw c.in-Some.ensures.same.1
    (rank-given (net_game s.net.now) s.set.bound (ranks_in s.set.ranks.now) c.args.state _ c.rank_at-rank.ensures _ c.if-rank-gt0.false
    c.in-Some.ensures.reading)

pub returns-in-Some-clause-attack : goal.returns-in-Some-clause-attack
unfolding net_game
returns-in-Some-clause-attack c = let s = c.args.self.now in
    attack_new (net_game s.net.now) s.set.bound s.set.ranks.now c.args.attack c.args.state _ c.rank_at-rank.ensures _ c.if-rank-gt0.false
    c.in-Some.ensures.reading

pub returns-in-None-clause-rank : goal.returns-in-None-clause-rank
unfolding net_game
returns-in-None-clause-rank c = let s = c.args.self.now in
    rank_none (net_game s.net.now) s.set.bound (ranks_in s.set.ranks.now) c.args.state _ c.rank_at-rank.ensures c.if-rank-gt0.false c.in-None.ensures.reading

pub returns-in-None-clause-attack : goal.returns-in-None-clause-attack
unfolding net_game
returns-in-None-clause-attack c = let s = c.args.self.now in
    attack_none (net_game s.net.now) s.set.bound s.set.ranks.now c.args.attack c.args.state _ c.rank_at-rank.ensures c.if-rank-gt0.false
    c.in-None.ensures.reading
