-- What holds of all that is kept: the control kept is the least that keeps, or the search goes on behind it; what is kept in one round can be
-- kept in the next. Assumes nothing.
use Prim.Native.Nat.{ℕ, suc, ◌+◌, ◌*◌, ◌-◌, ◌^◌, ◌<◌, ◌≤◌}
use native.Mathlib.Omega.{arith}
use native.Mathlib.Decide.{dec_lt, ℕ_discrete}
use mathlib.Core.Bool.{Bool, true, false, cond, not, ◌&&◌, true≢false}
use mathlib.Core.List.{List}
use mathlib.Core.Path.{◌≡◌, refl, sym, ap, ◌∙◌}
use lib.Dec.{ltb}
use lib.ListN.{length, get_or, set, length-set, get_or-eq_default}
use lib.Seq.{get_or-set_same, get_or-set_other}
use borrow.Author.Tests.{lt-ltb, le-ltb}
use Rattle.std.proofs.Common.{Some, None}
use Rattle.below.specs.Least.{least}
use Rattle.below.specs.LeastFrom.{least_from}
use Rattle.below.specs.Table.{table}
use Rattle.below.proofs.Laws.Least.{least-is, least_none, least-before}
use Rattle.below.proofs.Laws.LeastFrom.{from_holds, from_start, from-before}
use Rattle.below.proofs.Laws.Table.{length_table, get_or_table}
use Rattle.circuit.specs.Limits.{base}
use Rattle.game.specs.Game.{Game}
use Rattle.game.specs.Rank.{not_ranked, defeated, round}
use Rattle.game.proofs.Laws.Rank.{ranked_is, is_ranked}
use Rattle.keeping.specs.KeptControls.{nothing, still_keeps}
use Rattle.keeping.specs.RankList.{ranks_in}
use Rattle.keeping.specs.declared.lane.Found.{Found}
use Rattle.keeping.specs.declared.rank_list.KeptControl.{KeptControl}
use Rattle.net.specs.Net.{net_controls, net_error, net_next}
use Rattle.net.specs.Sized.{Sized}
use Rattle.solver.specs.RankTable.{round_table}
use Rattle.solver.specs.Inner.Answers.{LeastBelow, MoveFrom}
use Rattle.solver.specs.Inner.Kept.{KeptAt, Kept, Behind}
use Rattle.solver.specs.Inner.Moves.{move_keeps, place_keeps, places}
use Rattle.solver.specs.Inner.Planes.{slot_at, HeldAt, AllHeld}
use Rattle.solver.specs.declared.planes.Slot.{Slot}

fails_again : (net : List ℕ) (these those : ℕ → Bool) (p j : ℕ) → ((t : ℕ) → these t ≡ false → those t ≡ false) → place_keeps net these p j ≡ false
    → place_keeps net those p j ≡ false
unfolding place_keeps move_keeps
fails_again net these those p j fewer e = by (net_error net (p * 2 ^ net_controls net + j)) e
  where
    t : ℕ
    t = net_next net (p * 2 ^ net_controls net + j)

    by : (b : Bool) → (not b && these t) ≡ false → (not b && those t) ≡ false
    by true f = refl
    by false f = fewer t f

-- a search over the moves of a place, where those before its start fail
module _ (test : ℕ → Bool) (first n start m : ℕ)
    (failed : (j : ℕ) → j < start → test (first + j) ≡ false) (found : m ≡ least_from test (first + start) (first + n)) where
  passed : (j : ℕ) → first + j < m → test (first + j) ≡ false
  passed j h = elim (dec_lt j start) [ yes l ↦ failed j l | no l ↦ from-before test (first + start) (first + n) (first + j) (omega arith) (omega arith) ]

  pub search_found : m < first + n → m - first ≡ least (λ j. test (first + j)) n
  search_found h =
      sym (least-is (λ j. test (first + j)) n (m - first) (omega (arith, later))
      (ap test back ∙ ap test found ∙ from_holds test (first + start) (first + n) (omega arith)) (λ j l. passed j (omega arith)))
    where
      later : first + start ≤ m
      later = omega (arith, found, from_start test (first + start) (first + n) (omega arith))

      back : first + (m - first) ≡ m
      back = omega (arith, later, found)

  pub search_none : first + n ≤ m → n ≡ least (λ j. test (first + j)) n
  search_none h = sym (least_none (λ j. test (first + j)) n (λ j l. passed j (omega arith)))

  pub search_later : m < first + n → first ≤ m
  search_later h = omega (arith, from_start test (first + start) (first + n) (omega arith))

both_hold : (a b : Bool) → (a && b) ≡ true → (a ≡ true) × (b ≡ true)
both_hold true b e = (refl, e)
both_hold false b e = absurd (true≢false (sym e))

not-both : (a b : Bool) → (a && b) ≡ false → a ≡ true → b ≡ false
not-both true b e f = e
not-both false b e f = absurd (true≢false (sym f))

-- the control kept at a place
module _ (net : List ℕ) (set : ℕ → Bool) (p : ℕ) (control : KeptControl) (kept : KeptAt net set p control) where
  -- it still keeps: it is the least
  module _ (still : still_keeps control set ≡ true) where
    pub still_some : 0 < control.found
    unfolding still_keeps
    still_some = elim (dec_lt 0 control.found) [
      | yes h ↦ h
      | no h ↦ absurd (true≢false (sym (both_hold (ltb 0 control.found) (set control.lead) still).0 ∙ le-ltb 0 control.found (omega arith)))
    ]

    pub still_least : LeastBelow (place_keeps net set p) (2 ^ net_controls net) (Some (control.found - 1))
    unfolding still_keeps
    still_least = record {
      least = sym (least-is (place_keeps net set p) (2 ^ net_controls net) (control.found - 1) (omega (arith, still_some, kept.few))
          (kept.leads still_some set ∙ (both_hold (ltb 0 control.found) (set control.lead) still).1) (λ j h. kept.failed j (omega arith)));
      within = omega (arith, still_some, kept.few);
    }

  -- or it failed too
  pub none_behind : still_keeps control set ≡ false → (j : ℕ) → j < control.found → place_keeps net set p j ≡ false
  unfolding still_keeps
  none_behind e j h = elim (dec_lt (j + 1) control.found) [
    | yes l ↦ kept.failed j l
    | no l ↦ ap (place_keeps net set p) {x = j} {y = control.found - 1} (omega (arith, l)) ∙ kept.leads (omega arith) set
        ∙ not-both (ltb 0 control.found) (set control.lead) e (lt-ltb 0 control.found (omega arith))
  ]

module _ (net : List ℕ) (set : ℕ → Bool) (kept : List KeptControl) (slots : List Slot) (all : Kept net set kept slots) where
  -- a look behind the control kept, over the moves of a place
  module _ (p n : ℕ) (place : p < places net) (count : n ≡ 2 ^ net_controls net) (behind : Behind net set p kept) where
    abbrev start : ℕ
    start = (get_or kept p nothing).found

    keeps_at : ℕ → ℕ
    keeps_at x = least (λ j. move_keeps net set (p * x + j)) x

    failed : (j : ℕ) → j < start → move_keeps net set (p * n + j) ≡ false
    unfolding place_keeps
    failed j h = ap (λ (x : ℕ). move_keeps net set (p * x + j)) count ∙ behind j h

    pub look_none : MoveFrom net set (p * n + start) (p * n + n) None → LeastBelow (place_keeps net set p) (2 ^ net_controls net) None
    unfolding place_keeps keeps_at
    look_none got = record {
      least = sym count ∙ search_none (move_keeps net set) (p * n) n start (p * n + n) failed got.number (omega arith) ∙ ap keeps_at count;
      within = tt;
    }

    module _ (move : Found) (got : MoveFrom net set (p * n + start) (p * n + n) (Some move)) where
      pub look-later : p * n ≤ move.number
      look-later = search_later (move_keeps net set) (p * n) n start move.number failed got.number got.within

      pub look_found : LeastBelow (place_keeps net set p) (2 ^ net_controls net) (Some (move.number - p * n))
      unfolding place_keeps keeps_at
      look_found = record {
        least = search_found (move_keeps net set) (p * n) n start move.number failed got.number got.within ∙ ap keeps_at count;
        within = omega (arith, got.within, look-later);
      }

      pub look-kept : KeptAt net set p (record { found = move.number - p * n + 1; lead = move.lead })
      unfolding place_keeps
      look-kept = record {
        few = omega (arith, got.within, look-later);
        failed = λ j h. least-before (place_keeps net set p) (2 ^ net_controls net) j (omega (arith, look_found.least));
        leads = λ h these. ap (move_keeps net these) (back (move.number - p * n + 1 - 1) (omega arith)) ∙ got.leads these;
      }
        where
          back : (j : ℕ) → j ≡ move.number - p * n → p * 2 ^ net_controls net + j ≡ move.number
          back j e = ap (λ (x : ℕ). p * x + j) (sym count) ∙ omega (arith, e, look-later)

  -- other planes
  pub kept_held : (others : List Slot) → 0 < length others → AllHeld net others → Kept net set kept others
  kept_held others some held = record { sized = all.sized; long = all.long; some = some; held = held; at = all.at }

  -- another control at a place
  pub kept_put : (p : ℕ) (control : KeptControl) → p < places net → KeptAt net set p control → Kept net set (lib.ListN.set kept p control) slots
  kept_put p control h new = record {
    sized = all.sized;
    long = omega (arith, all.long, length-set kept p control);
    some = all.some;
    held = all.held;
    at = at;
  }
    where
      at : (q : ℕ) → q < places net → KeptAt net set q (get_or (lib.ListN.set kept p control) q nothing)
      at q l = elim (ℕ_discrete q p) [
        | yes e ↦ rw (e, get_or-set_same kept p control nothing (omega (arith, all.long))) new
        | no d ↦ rw (get_or-set_other kept p q control nothing d) (all.at q l)
      ]

  -- where the set loses states alone, what failed fails again
  pub kept_later : (other : ℕ → Bool) → ((t : ℕ) → set t ≡ false → other t ≡ false) → Kept net other kept slots
  kept_later other fewer = record { sized = all.sized; long = all.long; some = all.some; held = all.held; at = at }
    where
      at : (p : ℕ) → p < places net → KeptAt net other p (get_or kept p nothing)
      at p h = let a = all.at p h in record {
        few = a.few;
        failed = λ j i. fails_again net set other p j fewer (a.failed j i);
        leads = a.leads;
      }

-- a greater bound takes no rank away
pub kept-most : (net ranks : List ℕ) (k m : ℕ) (kept : List KeptControl) (slots : List Slot) → Kept net (not_ranked (ranks_in ranks) k) kept slots → k ≤ m
    → Kept net (not_ranked (ranks_in ranks) m) kept slots
kept-most net ranks k m kept slots all h = kept_later net (not_ranked (ranks_in ranks) k) kept slots all (not_ranked (ranks_in ranks) m) still
  where
    still : (t : ℕ) → not_ranked (ranks_in ranks) k t ≡ false → not_ranked (ranks_in ranks) m t ≡ false
    still t f = let r = ranked_is (ranks_in ranks) k t f in is_ranked (ranks_in ranks) m t r.0 (omega (arith, r.1))

-- a round takes no rank away
round_stays : (g : Game) (states k t : ℕ) (ranks : List ℕ) → length ranks ≡ 2 ^ base.latches → 0 < ranks_in ranks t
    → ranks_in (round_table g states k ranks) t ≡ ranks_in ranks t
unfolding ranks_in round_table round
round_stays g states k t ranks long h = elim (dec_lt t (2 ^ base.latches)) [
  | yes l ↦ get_or_table _ (2 ^ base.latches) t 0 l ∙ by (ltb t states)
  | no l ↦ absurd (omega (arith, none l))
]
  where
    none : (t < 2 ^ base.latches → ⊥) → get_or ranks t 0 ≡ 0
    none l = get_or-eq_default ranks 0 {n = t} (omega (arith, long, l))

    by : (b : Bool) → cond b (cond (ltb 0 (get_or ranks t 0)) (get_or ranks t 0) (cond (defeated g (ranks_in ranks) k t) (suc k) 0))
        (get_or ranks t 0) ≡ get_or ranks t 0
    by true = ap (λ (b : Bool). cond b (get_or ranks t 0) (cond (defeated g (ranks_in ranks) k t) (suc k) 0)) (lt-ltb 0 (get_or ranks t 0) h)
    by false = refl

-- so what is kept in one round can be kept in the next
pub kept_next : (g : Game) (states : ℕ) (net : List ℕ) (k : ℕ) (ranks after : List ℕ) (kept : List KeptControl) (slots : List Slot)
    → Kept net (not_ranked (ranks_in ranks) k) kept slots → length ranks ≡ 2 ^ base.latches → after ≡ round_table g states k ranks
    → Kept net (not_ranked (ranks_in after) (k + 1)) kept slots
kept_next g states net k ranks after kept slots all long e =
    kept_later net (not_ranked (ranks_in ranks) k) kept slots all (not_ranked (ranks_in after) (k + 1)) still
  where
    still : (t : ℕ) → not_ranked (ranks_in ranks) k t ≡ false → not_ranked (ranks_in after) (k + 1) t ≡ false
    still t f = let r = ranked_is (ranks_in ranks) k t f in
        let same : ranks_in after t ≡ ranks_in ranks t = ap (λ (l : List ℕ). ranks_in l t) e ∙ round_stays g states k t ranks long r.0 in
        is_ranked (ranks_in after) (k + 1) t (omega (arith, same, r.0)) (omega (arith, same, r.1))

-- before the first look nothing is kept
pub kept_start : (net : List ℕ) (set : ℕ → Bool) (n m : ℕ) (kept : List KeptControl) (slot : Slot) (slots : List Slot) → Sized net
    → kept ≡ table (λ i. nothing) n → length slot.next ≡ base.latches → slot.mark ≡ 0 → slots ≡ table (λ i. slot) m → places net ≤ n
    → 0 < m → Kept net set kept slots
kept_start net set n m kept slot slots sized e l z f enough some = record {
  sized = sized;
  long = omega (arith, ap length e ∙ length_table {A = KeptControl} (λ i. nothing) n);
  some = omega (arith, long);
  held = record { at = held };
  at = at;
}
  where
    long : length slots ≡ m
    long = ap length f ∙ length_table {A = Slot} (λ i. slot) m

    held : (i : ℕ) → i < length slots → HeldAt net (slot_at slots i)
    held i h = record { long = ap (λ (s : Slot). length s.next) here ∙ l; says = λ l j w these. absurd (omega (arith, z, ap (λ (s : Slot). s.mark) here)) }
      where
        here : slot_at slots i ≡ slot
        here = ap (λ (l : List Slot). slot_at l i) f ∙ get_or_table {A = Slot} (λ j. slot) m i _ (omega (arith, long))

    at : (p : ℕ) → p < places net → KeptAt net set p (get_or kept p nothing)
    at p h = record { few = omega (arith, none); failed = λ j i. absurd (omega (arith, none)); leads = λ l s. absurd (omega (arith, none)) }
      where
        none : (get_or kept p nothing).found ≡ 0
        none = ap (λ (l : List KeptControl). (get_or l p nothing).found) e
            ∙ ap (λ (k : KeptControl). k.found) (get_or_table {A = KeptControl} (λ j. nothing) n p nothing (omega arith))
