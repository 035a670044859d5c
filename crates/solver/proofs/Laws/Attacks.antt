-- The attacks that stand beside the ranks of a round: of each state that has a rank, the game's own attack; of another 0. A round keeps
-- this, and behind the last round it is the list of attacks. Assumes nothing.
use Prim.Native.Nat.{ℕ, suc, ◌-◌, ◌^◌, ◌<◌, ◌≤◌}
use native.Mathlib.Omega.{arith}
use native.Mathlib.Decide.{dec_lt}
use mathlib.Core.Bool.{Bool, true, cond, not}
use mathlib.Core.List.{List}
use mathlib.Core.Path.{◌≡◌, refl, sym, ap, ◌∙◌}
use lib.Dec.{ltb}
use lib.ListN.{length, get_or, get_or-eq_default}
use lib.Seq.{ext_get_or}
use borrow.Author.Tests.{lt-ltb, le-ltb}
use Rattle.std.proofs.Common.{Some, None}
use Rattle.below.specs.Least.{least, any}
use Rattle.below.specs.Table.{table}
use Rattle.below.proofs.Laws.Least.{least_same}
use Rattle.below.proofs.Laws.Table.{length_table, get_or_table, get_or_table_past}
use Rattle.circuit.specs.Limits.{base}
use Rattle.game.specs.Attack.{attack}
use Rattle.game.specs.Game.{Game, Proper}
use Rattle.game.specs.Rank.{defeats, defeated, round, ranks_after, rank, in_region}
use Rattle.game.proofs.Laws.Keeps.{defeated-by}
use Rattle.game.proofs.Laws.Rank.{settled}
use Rattle.game.proofs.Laws.Rounds.{Later, stays, none, after, later_than}
use Rattle.keeping.specs.RankList.{ranks_in}
use Rattle.solver.specs.Inner.AttacksAfter.{attack_after, attacks_after}
use Rattle.solver.specs.Inner.Answers.{LeastBelow}
use Rattle.solver.specs.Inner.Fair.{Fair}
use Rattle.solver.specs.Over.{found}
use Rattle.solver.specs.RankTable.{rank_table, round_table}
use Rattle.solver.specs.Solution.{attack_table}
use Rattle.solver.proofs.Laws.Over.{found_below, found_none}
use Rattle.solver.proofs.Laws.RankTable.{Ranked, in_table, defeats_same, ranked_same, rank_in_table, rank-kept}

-- a state that gets its rank in round k + 1 gets its attack there
module _ (g : Game) (proper : Proper g) (k s : ℕ) (early : k < g.states) (unranked : ranks_after g k s ≡ 0)
    (lost : defeated g (ranks_after g k) k s ≡ true) where
  given_now : ranks_after g (suc k) s ≡ suc k
  unfolding ranks_after round
  given_now = rw (unranked, lost)

  given-rank : rank g s ≡ suc k
  unfolding rank
  given-rank = by (later_than g (suc k) g.states s early)
    where
      by : Later g (suc k) g.states s → ranks_after g g.states s ≡ suc k
      by (stays l e) = e ∙ given_now
      by (none z e) = absurd (omega (arith, given_now))
      by (after z l) = absurd (omega (arith, given_now))

  outside : attack g s ≡ least (defeats g (rank g) (rank g s - 1) s) g.readings
  unfolding attack in_region
  outside = ap (λ (b : Bool). cond (not b) 0 (least (defeats g (rank g) (rank g s - 1) s) g.readings)) (lt-ltb 0 (rank g s) (omega (arith, given-rank)))

  before-is : rank g s - 1 ≡ k
  before-is = omega (arith, given-rank)

  born_attack : least (defeats g (ranks_after g k) k s) g.readings ≡ attack g s
  born_attack =
      least_same (defeats g (ranks_after g k) k s) (defeats g (rank g) k s) g.readings
      (λ r h. defeats_same g proper (ranks_after g k) (rank g) k s r (λ t l. settled g k t (omega arith)))
      ∙ ap (λ (n : ℕ). least (defeats g (rank g) n s) g.readings) (sym before-is) ∙ sym outside

-- in the region it is 0
no_attack : (g : Game) (s : ℕ) → rank g s ≡ 0 → attack g s ≡ 0
unfolding attack in_region
no_attack g s z = rw (le-ltb 0 (rank g s) (omega arith))

pub record AttacksAre (g : Game) (ranks attacks : List ℕ) : Type 0 where
  pub long : length attacks ≡ 2 ^ base.latches
  pub ranked : (s : ℕ) → s < g.states → 0 < ranks_in ranks s → get_or attacks s 0 ≡ attack g s
  pub others : (s : ℕ) → (s < g.states → ranks_in ranks s ≡ 0) → get_or attacks s 0 ≡ 0

zero_at : (n s : ℕ) → ◌≡◌ {A = ℕ} (get_or (table (λ i. 0) n) s 0) 0
zero_at n s = elim (dec_lt s n) [ yes h ↦ get_or_table {A = ℕ} (λ i. 0) n s 0 h | no h ↦ get_or_table_past {A = ℕ} (λ i. 0) n s 0 (omega arith) ]

pub attacks_start : (g : Game) (ranks attacks : List ℕ) → ranks ≡ table (λ s. 0) (2 ^ base.latches) → attacks ≡ table (λ s. 0) (2 ^ base.latches)
    → AttacksAre g ranks attacks
unfolding ranks_in
attacks_start g ranks attacks e f = record {
  long = ap length f ∙ length_table {A = ℕ} (λ s. 0) (2 ^ base.latches);
  ranked = λ s h l. absurd (omega (arith, ap (λ (x : List ℕ). get_or x s 0) e ∙ zero_at (2 ^ base.latches) s));
  others = λ s h. ap (λ (x : List ℕ). get_or x s 0) f ∙ zero_at (2 ^ base.latches) s;
}

module _ (g : Game) (states k : ℕ) (ranks : List ℕ) (fair : Fair g states) (ranked : Ranked g states k ranks) (more : k < states) where
  now_rank : (s : ℕ) → s < g.states → ranks_in ranks s ≡ ranks_after g k s
  now_rank s h = ap (λ (l : List ℕ). ranks_in l s) ranked.is ∙ in_table g fair.few k s h

  same_defeat : (s r : ℕ) → defeats g (ranks_in ranks) k s r ≡ defeats g (ranks_after g k) k s r
  same_defeat s r =
      defeats_same g fair.proper (ranks_in ranks) (ranks_after g k) k s r (λ t l. ranked_same (ranks_in ranks) (ranks_after g k) k t (now_rank t l))

  same_least : (s : ℕ) → least (defeats g (ranks_in ranks) k s) g.readings ≡ least (defeats g (ranks_after g k) k s) g.readings
  same_least s = least_same (defeats g (ranks_in ranks) k s) (defeats g (ranks_after g k) k s) g.readings (λ r h. same_defeat s r)

  -- the rank after the round, and the attack beside it, of a state without a rank
  module _ (s : ℕ) (state : s < g.states) (unranked : ranks_in ranks s ≡ 0) where
    lost_is : defeated g (ranks_after g k) k s ≡ ltb (least (defeats g (ranks_in ranks) k s) g.readings) g.readings
    unfolding any
    lost_is = defeated-by g (ranks_after g k) k s ∙ ap (λ (i : ℕ). ltb i g.readings) (sym (same_least s))

    attack-given : least (defeats g (ranks_in ranks) k s) g.readings < g.readings
        → found (least (defeats g (ranks_in ranks) k s) g.readings) g.readings ≡ attack g s
    attack-given h = sym (found_below _ g.readings h) ∙ same_least s
        ∙ born_attack g fair.proper k s (omega (arith, fair.all)) (sym (now_rank s state) ∙ unranked) (lost_is ∙ lt-ltb _ g.readings h)

  module _ (attacks after more-attacks : List ℕ) (are : AttacksAre g ranks attacks) (after_is : after ≡ round_table g states k ranks)
      (attacks_are_lem : more-attacks ≡ attacks_after g states k ranks attacks) where
    long_after : length more-attacks ≡ 2 ^ base.latches
    unfolding attacks_after
    long_after = ap length attacks_are_lem ∙ length_table _ (length attacks) ∙ are.long

    attack_at_lem : (s : ℕ) → s < g.states → get_or more-attacks s 0 ≡ attack_after g k ranks (get_or attacks s 0) s
    unfolding attacks_after
    attack_at_lem s h = ap (λ (l : List ℕ). get_or l s 0) attacks_are_lem ∙ get_or_table _ (length attacks) s 0 (omega (arith, are.long, fair.few))
        ∙ ap (λ (b : Bool). cond b (attack_after g k ranks (get_or attacks s 0) s) (get_or attacks s 0)) (lt-ltb s states (omega (arith, fair.all)))

    attack-behind : (s : ℕ) → g.states ≤ s → get_or more-attacks s 0 ≡ get_or attacks s 0
    unfolding attacks_after
    attack-behind s h = ap (λ (l : List ℕ). get_or l s 0) attacks_are_lem ∙ elim (dec_lt s (length attacks)) [
      | yes l ↦ get_or_table _ (length attacks) s 0 l
          ∙ ap (λ (b : Bool). cond b (attack_after g k ranks (get_or attacks s 0) s) (get_or attacks s 0)) (le-ltb s states (omega (arith, fair.all)))
      | no l ↦ get_or_table_past _ (length attacks) s 0 (omega arith) ∙ sym (get_or-eq_default attacks 0 {n = s} (omega arith))
    ]

    rank_at_lem : (s : ℕ) → s < g.states → ranks_in after s ≡ round g k (ranks_in ranks) s
    unfolding round_table ranks_in
    rank_at_lem s h = ap (λ (l : List ℕ). get_or l s 0) after_is ∙ get_or_table _ (2 ^ base.latches) s 0 (omega (arith, fair.few))
        ∙ ap (λ (b : Bool). cond b (round g k (λ t. get_or ranks t 0) s) (get_or ranks s 0)) (lt-ltb s states (omega (arith, fair.all)))

    -- a state with a rank keeps its attack
    kept-attack : (s : ℕ) → s < g.states → 0 < ranks_in ranks s → get_or more-attacks s 0 ≡ attack g s
    unfolding attack_after
    kept-attack s h l = attack_at_lem s h
        ∙ ap (λ (b : Bool). cond b (get_or attacks s 0) (found (least (defeats g (ranks_in ranks) k s) g.readings) g.readings))
        (lt-ltb 0 (ranks_in ranks s) l) ∙ are.ranked s h l

    found-attack : (s : ℕ) → s < g.states → ranks_in ranks s ≡ 0
        → get_or more-attacks s 0 ≡ found (least (defeats g (ranks_in ranks) k s) g.readings) g.readings
    unfolding attack_after
    found-attack s h z = attack_at_lem s h
        ∙ ap (λ (b : Bool). cond b (get_or attacks s 0) (found (least (defeats g (ranks_in ranks) k s) g.readings) g.readings))
        (le-ltb 0 (ranks_in ranks s) (omega arith))

    rank-given_now : (s : ℕ) → s < g.states → ranks_in ranks s ≡ 0
        → ranks_in after s ≡ cond (ltb (least (defeats g (ranks_in ranks) k s) g.readings) g.readings) (suc k) 0
    unfolding round any
    rank-given_now s h z = rank_at_lem s h
        ∙ ap (λ (b : Bool). cond b (ranks_in ranks s) (cond (defeated g (ranks_in ranks) k s) (suc k) 0)) (le-ltb 0 (ranks_in ranks s) (omega arith))
        ∙ ap (λ (b : Bool). cond b (suc k) 0) (defeated-by g (ranks_in ranks) k s)

    module _ (s : ℕ) (h : s < g.states) (z : ranks_in ranks s ≡ 0) where
      abbrev i : ℕ
      i = least (defeats g (ranks_in ranks) k s) g.readings

      rank_if : i < g.readings → ranks_in after s ≡ suc k
      rank_if l = rank-given_now s h z ∙ ap (λ (b : Bool). cond b (suc k) 0) (lt-ltb i g.readings l)

      rank_else : g.readings ≤ i → ranks_in after s ≡ 0
      rank_else l = rank-given_now s h z ∙ ap (λ (b : Bool). cond b (suc k) 0) (le-ltb i g.readings l)

      attack_if : i < g.readings → get_or more-attacks s 0 ≡ attack g s
      attack_if l = found-attack s h z ∙ attack-given s h z l

      attack_else : g.readings ≤ i → get_or more-attacks s 0 ≡ 0
      attack_else l = found-attack s h z ∙ sym (found_none i g.readings l)

    pub attacks_next : AttacksAre g after more-attacks
    attacks_next = record { long = long_after; ranked = ranked_case; others = others_case }
      where
        ranked_case : (s : ℕ) → s < g.states → 0 < ranks_in after s → get_or more-attacks s 0 ≡ attack g s
        ranked_case s h l = elim (dec_lt 0 (ranks_in ranks s)) [
          | yes a ↦ kept-attack s h a
          | no a ↦ elim (dec_lt (i s h (omega arith)) g.readings) [
            | yes b ↦ attack_if s h (omega arith) b
            | no b ↦ absurd (omega (arith, rank_else s h (omega arith) (omega arith)))
          ]
        ]

        stays_ranked : (s : ℕ) → s < g.states → 0 < ranks_in ranks s → 0 < ranks_in after s
        stays_ranked s h a = omega (arith, rank_at_lem s h, rank-kept g k (ranks_in ranks) s (ranks_in ranks s) refl a)

        others_case : (s : ℕ) → (s < g.states → ranks_in after s ≡ 0) → get_or more-attacks s 0 ≡ 0
        others_case s z = elim (dec_lt s g.states) [
          | yes h ↦ elim (dec_lt 0 (ranks_in ranks s)) [
            | yes a ↦ absurd (omega (arith, z h, stays_ranked s h a))
            | no a ↦ elim (dec_lt (i s h (omega arith)) g.readings) [
              | yes b ↦ absurd (omega (arith, z h, rank_if s h (omega arith) b))
              | no b ↦ attack_else s h (omega arith) (omega arith)
            ]
          ]
          | no h ↦ attack-behind s (omega arith) ∙ are.others s (λ l. absurd (omega arith))
        ]

-- behind the last round
pub attacks_end : (g : Game) (ranks attacks : List ℕ) → g.states ≤ 2 ^ base.latches → ranks ≡ rank_table g → AttacksAre g ranks attacks
    → attacks ≡ attack_table g
unfolding attack_table
attacks_end g ranks attacks few e are = ext_get_or 0 attacks (table (λ s. cond (ltb s g.states) (attack g s) 0) (2 ^ base.latches))
    (are.long ∙ sym (length_table _ (2 ^ base.latches))) (λ s h. at s ∙ sym (get_or_table _ (2 ^ base.latches) s 0 (omega (arith, are.long))))
  where
    rank_is : (s : ℕ) → s < g.states → ranks_in ranks s ≡ rank g s
    rank_is s h = ap (λ (l : List ℕ). ranks_in l s) e ∙ rank_in_table g few s h

    inside : (s : ℕ) → s < g.states → ranks_in ranks s ≡ 0 → get_or attacks s 0 ≡ attack g s
    inside s h z = are.others s (λ l. z) ∙ sym (no_attack g s (sym (rank_is s h) ∙ z))

    at : (s : ℕ) → get_or attacks s 0 ≡ cond (ltb s g.states) (attack g s) 0
    at s = elim (dec_lt s g.states) [
      | yes h ↦ rw (lt-ltb s g.states h) (elim (dec_lt 0 (ranks_in ranks s)) [ yes a ↦ are.ranked s h a | no a ↦ inside s h (omega arith) ])
      | no h ↦ rw (le-ltb s g.states (omega arith)) (are.others s (λ l. absurd (omega arith)))
    ]

-- what the code gives a state beside its rank in round k + 1
module _ (g : Game) (k : ℕ) (ranks : List ℕ) (attack s x : ℕ) (is : x ≡ ranks_in ranks s) where
  pub attack-kept : 0 < x → attack ≡ attack_after g k ranks attack s
  unfolding attack_after
  attack-kept h = rw (lt-ltb 0 (ranks_in ranks s) (omega arith))

  pub attack_new : (r : ℕ) → x ≤ 0 → LeastBelow (defeats g (ranks_in ranks) k s) g.readings (Some r) → r ≡ attack_after g k ranks attack s
  unfolding attack_after
  attack_new r h found = rw (le-ltb 0 (ranks_in ranks s) (omega arith), sym found.least) (found_below r g.readings found.within)

  pub attack_none : x ≤ 0 → LeastBelow (defeats g (ranks_in ranks) k s) g.readings None → 0 ≡ attack_after g k ranks attack s
  unfolding attack_after
  attack_none h found = rw (le-ltb 0 (ranks_in ranks s) (omega arith), sym found.least) (found_none g.readings g.readings (omega arith))
