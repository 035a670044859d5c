-- `solver::rounds::Room::rounds` meets its contract: the ranks are those after k rounds; where a round changes nothing none after it does, and as
-- many rounds as there are states suffice.
use Prim.Native.Nat.{◌+◌, ◌^◌, ◌<◌}
use native.Mathlib.Omega.{arith}
use mathlib.Core.Bool.{true}
use mathlib.Core.Path.{◌≡◌}
use Rattle.std.proofs.Common.{rules}
use Rattle.std.proofs.lemmas.Bool.Decides.{Decides-eqb}
use Rattle.std.proofs.lemmas.Slice.Eq.{slice_eq-Decides}
use Rattle.circuit.specs.Limits.{base}
use Rattle.game.specs.NetGame.{net_game}
use Rattle.game.specs.Rank.{not_ranked}
use Rattle.keeping.specs.RankList.{ranks_in}
use Rattle.net.specs.Net.{net_latches}
use Rattle.solver.specs.Inner.Fair.{Fair}
use Rattle.solver.specs.Inner.Kept.{Kept}
use Rattle.solver.specs.RankTable.{round_table}
use Rattle.solver.proofs.Laws.Attacks.{AttacksAre, attacks_start, attacks_next, attacks_end}
use Rattle.solver.proofs.Laws.Kept.{kept_next, kept-most}
use Rattle.solver.proofs.Laws.NetGame.{net_fair}
use Rattle.solver.proofs.Laws.RankTable.{Ranked, rounds_start, rounds_next, rounds_stop, rounds_end, ranked_long, ranks_most}
use Rattle.solver.proofs.rounds.Room.rounds.Goals as goal
use Rattle.solver.proofs.rounds.Room.rounds.Goals.{Start, After-eq}

fair : (s : Start) → Fair (net_game s.args.self.now.net.now) (2 ^ net_latches s.args.self.now.net.now)
fair s = net_fair s.args.self.now.net.now (s.requires (λ t. true)).sized

pub states-k-end-requires : goal.states-k-end-requires
states-k-end-requires c = (c.requires (λ t. true)).sized

pub loop-k-init : goal.loop-k-init
loop-k-init c = record {
  ranked = rounds_start _ _ _ c.filled-ranks.ensures;
  attacks = attacks_start _ _ _ c.filled-ranks.ensures c.filled-attacks.ensures;
  same = search rules;
  kept = c.requires _;
}

-- the round over the net of the start
after : (c : After-eq) → c.round-after.result
    ≡ round_table (net_game c.args.self.now.net.now) (2 ^ net_latches c.args.self.now.net.now) c.loop-k.k c.loop-k.ranks
after c = rw c.loop-k.invariant.same.0 at c.round-after.ensures.after

more : (c : After-eq) → c.loop-k.k < 2 ^ net_latches c.args.self.now.net.now
more c = omega (arith, c.loop-k-test.true, c.states-k-end.ensures.value)

next : (c : After-eq) → Fair (net_game c.args.self.now.net.now) (2 ^ net_latches c.args.self.now.net.now)
    → Ranked (net_game c.args.self.now.net.now) (2 ^ net_latches c.args.self.now.net.now) (c.loop-k.k + 1) c.round-after.result
next c f = rounds_next _ _ c.loop-k.k c.loop-k.ranks c.round-after.result f c.loop-k.invariant.ranked (more c) (after c)

attacks : (c : After-eq) → Fair (net_game c.args.self.now.net.now) (2 ^ net_latches c.args.self.now.net.now)
    → AttacksAre (net_game c.args.self.now.net.now) c.round-after.result c.round-after.new.attacks
attacks c f = let l = c.loop-k in
    let new = rw l.invariant.same.0 at c.round-after.ensures.attacks in
    attacks_next _ _ l.k l.ranks f l.invariant.ranked (more c) l.attacks c.round-after.result _ l.invariant.attacks (after c) new

kept : (c : After-eq) → Kept c.round-after.new.self.net.now (not_ranked (ranks_in c.round-after.result) (c.loop-k.k + 1)) c.round-after.new.self.kept.now
    c.round-after.new.self.slots.now
kept c = let l = c.loop-k in
    kept_next _ _ _ l.k l.ranks c.round-after.result _ _ c.round-after.ensures.kept_on (ranked_long _ _ _ l.ranks l.invariant.ranked) (after c)

pub returns-then-eq-clause-ended : goal.returns-then-eq-clause-ended
returns-then-eq-clause-ended c = let e = (goal.at.returns-then-eq-clause-ended c).After-eq in
    let f = fair (goal.at.returns-then-eq-clause-ended c).Start in
    let l = c.loop-k in
    let same : c.round-after.result ≡ l.ranks = (slice_eq-Decides Decides-eqb _ _ _ c.eq.ensures).0 c.if-eq.true in
    let last = rounds_stop _ _ l.k l.ranks c.round-after.result f l.invariant.ranked (after e) same in record {
      ranks_are = last;
      attacks_are = attacks_end _ c.round-after.result _ f.few last (attacks e f);
      low = λ t. omega (arith, more e, f.few, ranks_most _ _ (l.k + 1) c.round-after.result f (next e f) t);
    }

pub returns-then-eq-clause-kept_on : goal.returns-then-eq-clause-kept_on
returns-then-eq-clause-kept_on c = let e = (goal.at.returns-then-eq-clause-kept_on c).After-eq in
    kept-most _ c.round-after.result (c.loop-k.k + 1) (2 ^ base.latches) _ _ (kept e) (omega arith)

pub loop-k-preserved : goal.loop-k-preserved
loop-k-preserved c = let e = (goal.at.loop-k-preserved c).After-eq in
    let f = fair (goal.at.loop-k-preserved c).Start in record {
      ranked = next e f;
      attacks = attacks e f;
      same = search rules;
      kept = kept e;
    }

pub returns-clause-ended : goal.returns-clause-ended
returns-clause-ended c = let f = fair (goal.at.returns-clause-ended c).Start in
    let l = c.loop-k in
    let last = rounds_end _ _ l.k l.ranks l.ranks f l.invariant.ranked (omega (arith, c.loop-k-test.false, c.states-k-end.ensures.value)) in record {
      ranks_are = last;
      attacks_are = attacks_end _ l.ranks _ f.few last l.invariant.attacks;
      low = λ t. omega (arith, ranks_most _ _ l.k l.ranks f l.invariant.ranked t);
    }

pub returns-clause-kept_on : goal.returns-clause-kept_on
returns-clause-kept_on c = kept-most _ c.loop-k.ranks c.loop-k.k (2 ^ base.latches) _ _ c.loop-k.invariant.kept (omega arith)
