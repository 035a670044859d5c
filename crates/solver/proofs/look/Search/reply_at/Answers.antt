-- `solver::look::Search::reply_at` meets its contract: outside the set 0, inside it the least control that keeps.
use Prim.Native.Nat.{ℕ, ◌/◌, ◌%◌, ◌^◌}
use mathlib.Core.Path.{◌≡◌, ap, ◌∙◌}
use Rattle.game.specs.NetGame.{net_game}
use Rattle.keeping.specs.RankList.{ranks_in}
use Rattle.keeping.specs.Unranked.{set_of}
use Rattle.net.specs.Net.{net_readings}
use Rattle.solver.proofs.Laws.Moves.{found_keeps}
use Rattle.solver.proofs.Laws.Over.{no_reply, reply_found, none_found}
use Rattle.solver.proofs.look.Search.reply_at.Goals as goal
use Rattle.solver.proofs.look.Search.reply_at.Goals.{After-rank_at}

rank : (c : After-rank_at) → c.rank_at.result ≡ ranks_in c.args.self.now.set.ranks.now (c.args.place / 2 ^ net_readings c.args.self.now.net.now)
rank c = c.rank_at.ensures ∙ ap (λ (n : ℕ). ranks_in c.args.self.now.set.ranks.now (c.args.place / n)) c.readings.ensures.value

pub returns-then-rank_at-gt0-clause-reply : goal.returns-then-rank_at-gt0-clause-reply
returns-then-rank_at-gt0-clause-reply c = let s = c.args.self.now in
    let u = 2 ^ net_readings s.net.now in
    no_reply (net_game s.net.now) s.set.ranks.now (c.args.place / u) _ (rank (goal.at.returns-then-rank_at-gt0-clause-reply c).After-rank_at)
    (c.args.place % u) c.if-rank_at-gt0.true

pub returns-in-Some-clause-reply : goal.returns-in-Some-clause-reply
unfolding net_game
returns-in-Some-clause-reply c = let s = c.args.self.now in
    let u = 2 ^ net_readings s.net.now in
    reply_found (net_game s.net.now) s.set.ranks.now (c.args.place / u) _ (rank (goal.at.returns-in-Some-clause-reply c).After-rank_at) s.set.bound
    (c.args.place % u) c.requires.ranks_bound c.if-rank_at-gt0.false _
    (found_keeps s.net.now c.args.place c.requires.place_bound (set_of s.set) _ c.in-Some.ensures.control)

pub returns-in-None-clause-reply : goal.returns-in-None-clause-reply
unfolding net_game
returns-in-None-clause-reply c = let s = c.args.self.now in
    let u = 2 ^ net_readings s.net.now in
    none_found (net_game s.net.now) s.set.ranks.now (c.args.place / u) _ (rank (goal.at.returns-in-None-clause-reply c).After-rank_at) s.set.bound
    (c.args.place % u) c.requires.ranks_bound c.if-rank_at-gt0.false
    (found_keeps s.net.now c.args.place c.requires.place_bound (set_of s.set) _ c.in-None.ensures.control)
