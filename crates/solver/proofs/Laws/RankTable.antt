-- The list of ranks after each round: a round of the code makes the next one, and one that changes nothing is the list of ranks. Assumes
-- nothing.
use Prim.Native.Nat.{ℕ, suc, ◌+◌, ◌^◌, ◌<◌, ◌≤◌}
use native.Mathlib.Omega.{arith}
use native.Mathlib.Decide.{dec_lt}
use native.Mathlib.Numerals.{add-one}
use mathlib.Core.Bool.{Bool, true, false, cond, not, ◌&&◌}
use mathlib.Core.List.{List}
use mathlib.Core.Path.{◌≡◌, refl, sym, ap, ap₂, ◌∙◌}
use lib.Dec.{leb, ltb}
use lib.ListN.{length}
use borrow.Author.Tests.{lt-ltb, le-ltb}
use Rattle.std.proofs.Common.{Some, None}
use Rattle.below.specs.Least.{least, any}
use Rattle.below.specs.Table.{table}
use Rattle.below.proofs.Laws.Table.{length_table, get_or_table, get_or_table_past, table_same}
use Rattle.circuit.specs.Limits.{base}
use Rattle.game.specs.Game.{Game, Proper}
use Rattle.game.specs.Rank.{not_ranked, defeats, defeated, round, ranks_after, rank}
use Rattle.game.proofs.Laws.Keeps.{answered_same, defeated-by}
use Rattle.game.proofs.Laws.Rounds.{defeated_same, Still, still_ranks, rank_most}
use Rattle.keeping.specs.RankList.{ranks_in}
use Rattle.solver.specs.Inner.Answers.{LeastBelow}
use Rattle.solver.specs.Inner.Fair.{Fair}
use Rattle.solver.specs.RankTable.{rank_table, round_table}

-- one and the same rank, one and the same set
pub ranked_same : (ranks other : ℕ → ℕ) (k s : ℕ) → ranks s ≡ other s → not_ranked ranks k s ≡ not_ranked other k s
unfolding not_ranked
ranked_same ranks other k s e = ap (λ (m : ℕ). not (leb 1 m && leb m k)) e

pub defeats_same : (g : Game) → Proper g → (ranks other : ℕ → ℕ) (k s r : ℕ) → ((t : ℕ) → t < g.states → not_ranked ranks k t ≡ not_ranked other k t)
    → defeats g ranks k s r ≡ defeats g other k s r
unfolding defeats
defeats_same g proper ranks other k s r e = ap not (answered_same g (not_ranked ranks k) (not_ranked other k) s r (λ c. e _ (proper.leads s r c)))

pub still_of : (g : Game) (k : ℕ) → ((s : ℕ) → s < g.states → ranks_after g (suc k) s ≡ ranks_after g k s) → Still g k
unfolding Still
still_of g k h = h

-- what the code gives a state in round k + 1
module _ (g : Game) (k : ℕ) (ranks : ℕ → ℕ) (s x : ℕ) (is : x ≡ ranks s) where
  pub rank-kept : 0 < x → x ≡ round g k ranks s
  unfolding round
  rank-kept h = rw (lt-ltb 0 (ranks s) (omega arith)) is

  pub rank-given : (r : ℕ) → x ≤ 0 → LeastBelow (defeats g ranks k s) g.readings (Some r) → k + 1 ≡ round g k ranks s
  unfolding round any
  rank-given r h found =
      rw (
        le-ltb 0 (ranks s) (omega arith),
        defeated-by g ranks k s ∙ lt-ltb (least (defeats g ranks k s) g.readings) g.readings (omega (
          arith,
          found.least,
          found.within,
        )),
      ) (add-one k)

  pub rank_none : x ≤ 0 → LeastBelow (defeats g ranks k s) g.readings None → 0 ≡ round g k ranks s
  unfolding round any
  rank_none h found = rw (
    le-ltb 0 (ranks s) (omega arith),
    defeated-by g ranks k s ∙ le-ltb (least (defeats g ranks k s) g.readings) g.readings (omega (arith, found.least)),
  )

-- the list after n rounds
unfoldable pub table_after : Game → ℕ → List ℕ
table_after g n = table (λ s. cond (ltb s g.states) (ranks_after g n s) 0) (2 ^ base.latches)

-- before the first round each rank is 0
pub table_before : (g : Game) → table (λ s. 0) (2 ^ base.latches) ≡ table_after g 0
unfolding table_after ranks_after
table_before g = table_same (λ s. 0) (λ s. cond (ltb s g.states) 0 0) (2 ^ base.latches) (λ s h. sym (either (ltb s g.states)))
  where
    either : (b : Bool) → ◌≡◌ {A = ℕ} (cond b 0 0) 0
    either true = refl
    either false = refl

pub table_last : (g : Game) → table_after g g.states ≡ rank_table g
unfolding table_after rank_table rank
table_last g = refl

module _ (g : Game) (few : g.states ≤ 2 ^ base.latches) where
  pub in_table : (n s : ℕ) → s < g.states → ranks_in (table_after g n) s ≡ ranks_after g n s
  unfolding table_after ranks_in
  in_table n s h = get_or_table (λ t. cond (ltb t g.states) (ranks_after g n t) 0) (2 ^ base.latches) s 0 (omega arith)
      ∙ ap (λ (b : Bool). cond b (ranks_after g n s) 0) (lt-ltb s g.states h)

  pub behind_table : (n s : ℕ) → g.states ≤ s → ranks_in (table_after g n) s ≡ 0
  unfolding table_after ranks_in
  behind_table n s h = elim (dec_lt s (2 ^ base.latches)) [
    | yes l ↦ get_or_table (λ t. cond (ltb t g.states) (ranks_after g n t) 0) (2 ^ base.latches) s 0 l
        ∙ ap (λ (b : Bool). cond b (ranks_after g n s) 0) (le-ltb s g.states h)
    | no l ↦ get_or_table_past (λ t. cond (ltb t g.states) (ranks_after g n t) 0) (2 ^ base.latches) s 0 (omega arith)
  ]

  pub rank_in_table : (s : ℕ) → s < g.states → ranks_in (rank_table g) s ≡ rank g s
  unfolding rank
  rank_in_table s h = sym (ap (λ (l : List ℕ). ranks_in l s) (table_last g)) ∙ in_table g.states s h

module _ (g : Game) (proper : Proper g) (few : g.states ≤ 2 ^ base.latches) where
  pub round_after : (k : ℕ) → round_table g g.states k (table_after g k) ≡ table_after g (k + 1)
  unfolding round_table table_after round ranks_after
  round_after k = rw add-one (table_same _ _ (2 ^ base.latches) (λ s h. elim (dec_lt s g.states) [ yes l ↦ state s l | no l ↦ behind s (omega arith) ]))
    where
      after : ℕ → ℕ
      after = ranks_in (table_after g k)

      lost : (s : ℕ) → defeated g after k s ≡ defeated g (ranks_after g k) k s
      lost s = defeated_same g proper after (ranks_after g k) k k s (λ t l. ranked_same after (ranks_after g k) k t (in_table g few k t l))

      state : (s : ℕ) → s < g.states → cond (ltb s g.states) (round g k after s) (after s) ≡ cond (ltb s g.states) (round g k (ranks_after g k) s) 0
      state s l = rw (lt-ltb s g.states l, in_table g few k s l, lost s)

      behind : (s : ℕ) → g.states ≤ s → cond (ltb s g.states) (round g k after s) (after s) ≡ cond (ltb s g.states) (round g k (ranks_after g k) s) 0
      behind s l = rw (le-ltb s g.states l) (behind_table g few k s l)

  -- a round that changes nothing is the last that could
  unchanged_is_last : (k : ℕ) → k ≤ g.states → table_after g (k + 1) ≡ table_after g k → table_after g k ≡ rank_table g
  unfolding table_after rank_table
  unchanged_is_last k l e = table_same _ _ (2 ^ base.latches) (λ s h. elim (dec_lt s g.states) [
    | yes m ↦ ap (λ (n : ℕ). cond (ltb s g.states) n 0) (still_ranks g proper k s still l m)
    | no m ↦ rw (le-ltb s g.states (omega arith))
  ])
    where
      still : Still g k
      still =
          still_of g k (λ s h. sym (ap (λ (n : ℕ). ranks_after g n s) (add-one k)) ∙ sym (in_table g few (k + 1) s h) ∙ ap (λ (l : List ℕ). ranks_in l s) e
          ∙ in_table g few k s h)

-- the list after k rounds, of at most as many as there are states
pub record Ranked (g : Game) (states k : ℕ) (ranks : List ℕ) : Type 0 where
  pub within : k ≤ states
  pub is : ranks ≡ table_after g k

pub rounds_start : (g : Game) (states : ℕ) (zeros : List ℕ) → zeros ≡ table (λ s. 0) (2 ^ base.latches) → Ranked g states 0 zeros
rounds_start g states zeros e = record { within = omega arith; is = e ∙ table_before g }

pub ranked_long : (g : Game) (states k : ℕ) (ranks : List ℕ) → Ranked g states k ranks → length ranks ≡ 2 ^ base.latches
unfolding table_after
ranked_long g states k ranks r = ap length r.is ∙ length_table _ (2 ^ base.latches)

pub round_long : (g : Game) (states k : ℕ) (ranks after : List ℕ) → after ≡ round_table g states k ranks → length after ≡ 2 ^ base.latches
unfolding round_table
round_long g states k ranks after e = ap length e ∙ length_table _ (2 ^ base.latches)

module _ (g : Game) (states k : ℕ) (ranks after : List ℕ) (fair : Fair g states) (ranked : Ranked g states k ranks) where
  next_is : after ≡ round_table g states k ranks → after ≡ table_after g (k + 1)
  next_is e = e ∙ ap₂ (λ (n : ℕ) (l : List ℕ). round_table g n k l) fair.all ranked.is ∙ round_after g fair.proper fair.few k

  pub rounds_next : k < states → after ≡ round_table g states k ranks → Ranked g states (k + 1) after
  rounds_next h e = record { within = omega arith; is = next_is e }

  -- a round that changes nothing makes the list of ranks
  pub rounds_stop : after ≡ round_table g states k ranks → after ≡ ranks → after ≡ rank_table g
  rounds_stop e f = f ∙ ranked.is ∙ unchanged_is_last g fair.proper fair.few k (omega (arith, ranked.within, fair.all)) (sym (next_is e) ∙ f ∙ ranked.is)

  pub rounds_end : states ≤ k → ranks ≡ rank_table g
  rounds_end h = ranked.is ∙ ap (table_after g) {x = k} {y = g.states} (omega (arith, ranked.within, fair.all)) ∙ table_last g

-- no rank is above the number of rounds
pub ranks_most : (g : Game) (states k : ℕ) (ranks : List ℕ) → Fair g states → Ranked g states k ranks → (t : ℕ) → ranks_in ranks t ≤ k
ranks_most g states k ranks fair ranked t = elim (dec_lt t g.states) [
  | yes h ↦ omega (arith, ap (λ (l : List ℕ). ranks_in l t) ranked.is ∙ in_table g fair.few k t h, rank_most g k t)
  | no h ↦ omega (arith, ap (λ (l : List ℕ). ranks_in l t) ranked.is ∙ behind_table g fair.few k t (omega arith))
]

pub table_long : (g : Game) (ranks : List ℕ) → ranks ≡ rank_table g → length ranks ≡ 2 ^ base.latches
unfolding rank_table
table_long g ranks e = ap length e ∙ length_table _ (2 ^ base.latches)
