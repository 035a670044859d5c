-- All gates visited in turn: each is marked and placed, whatever the graph; and if each uses lower gates only, as they stand. Assumes nothing.
use Prim.Native.Nat.{ℕ, zero, suc, ◌+◌, ◌<◌, ◌≤◌}
use native.Mathlib.Omega.{arith}
use native.Mathlib.Nat.{not-suc-le-zero}
use native.Mathlib.Decide.{dec_lt}
use mathlib.Core.Bool.{true, false, true≢false}
use mathlib.Core.List.{List, [], ◌∷◌, ◌++◌}
use mathlib.Core.Path.{◌≡◌, refl, sym, ap, ◌∙◌, subst}
use lib.ListN.{length, replicate, set}
use Rattle.below.specs.Table.{table}
use Rattle.below.specs.Among.{member}
use Rattle.below.proofs.Laws.Table.{length_table}
use Rattle.below.proofs.Laws.Filled.{replicate_table}
use Rattle.order.specs.Uses.{Uses, as_first, as_second, first_of, second_of}
use Rattle.order.specs.Placing.{Placing, marked, waits, mark, place, visit, nothing, visits, placed, order_of}
use Rattle.order.specs.Inner.Unseen.{unseen}
use Rattle.order.proofs.Laws.Marks.{mark-other, nothing-marked, marked_stays, past_stays, unmarked-waits, unseen_none, unseen-nothing}
use Rattle.order.proofs.Laws.Visit.{
  Visit,
  stays,
  goes,
  visit-is,
  visit_stays,
  unseen_fewer,
  visit_counts,
  visit_long,
  marks_grow,
  visited_marked,
  open_before,
}

unseen_zeros : (n : ℕ) → unseen (replicate n 0) ≡ n
unfolding unseen
unseen_zeros zero = refl
unseen_zeros (suc n) = ap suc (unseen_zeros n)

pub unseen_all : (n : ℕ) → unseen (table (λ i. 0) n) ≡ n
unseen_all n = ap unseen (sym (replicate_table n 0)) ∙ unseen_zeros n

module _ (uses : List ℕ) (n : ℕ) where
  visits_fewer : (k : ℕ) → unseen (visits uses n k).marks ≤ n
  unfolding visits
  visits_fewer zero = unseen-nothing n
  visits_fewer (suc k) = by (visits_fewer k)
    where
      by : unseen (visits uses n k).marks ≤ n → unseen (visit uses n n k (visits uses n k)).marks ≤ n
      by h = omega (arith, unseen_fewer (visit-is uses n n k (visits uses n k) h))

  visits_start : visits uses n zero ≡ nothing n
  unfolding visits
  visits_start = refl

  pub visits_next : (k : ℕ) → Visit uses n k (visits uses n k) (visits uses n (suc k))
  unfolding visits
  visits_next k = visit-is uses n n k (visits uses n k) (visits_fewer k)

  visits_long : (k : ℕ) → length (visits uses n k).marks ≡ n
  unfolding visits
  visits_long zero = length_table {A = ℕ} (λ i. 0) n
  visits_long (suc k) = visit_long (visits_next k) ∙ visits_long k

  visits_counts : (k : ℕ) → length (visits uses n k).order + unseen (visits uses n k).marks ≡ n
  unfolding visits
  visits_counts zero = omega (arith, unseen_all n)
  visits_counts (suc k) = visit_counts (visits_next k) ∙ visits_counts k

  visits-marked : (k j : ℕ) → j < k → j < n → marked (visits uses n k).marks j ≡ true
  visits-marked zero j h l = absurd (not-suc-le-zero h)
  visits-marked (suc k) j h l = elim (dec_lt j k) [ yes a ↦ marks_grow (visits_next k) j (visits-marked k j a l) | no a ↦ last (omega arith) ]
    where
      last : k ≡ j → marked (visits uses n (suc k)).marks j ≡ true
      last e = subst (λ (x : ℕ). marked (visits uses n (suc k)).marks x ≡ true) e (visited_marked (visits_next k) (omega arith))

  -- between two visits no gate is marked and not placed
  pub visits-whole : (k j : ℕ) → j < n → marked (visits uses n k).marks j ≡ true → member j (visits uses n k).order ≡ false → ⊥
  unfolding visits
  visits-whole zero j h m o = true≢false (sym m ∙ nothing-marked n j h)
  visits-whole (suc k) j h m o = let was = open_before (visits_next k) j m o in visits-whole k j h was.0 was.1

  pub placed_all : unseen (placed uses n).marks ≡ 0
  unfolding placed
  placed_all = unseen_none (visits uses n n).marks (λ i h. visits-marked n i (omega (arith, visits_long n)) (omega (arith, visits_long n)))

  pub placed-length : length (order_of uses n) ≡ n
  unfolding order_of placed
  placed-length = omega (arith, visits_counts n, placed_all)

  -- gates that stand in order already are placed as they stand
  module _ (lower : (i j : ℕ) → i < n → Uses uses n i j → j < i) where
    record Standing (k : ℕ) : Type 0 where
      order : (visits uses n k).order ≡ table (λ i. i) k
      later : (j : ℕ) → k ≤ j → j < n → marked (visits uses n k).marks j ≡ false

    -- a gate whose operands are marked is placed at once
    at_once : (i : ℕ) (p q : Placing) → Visit uses n i p q → waits n p.marks i ≡ true → waits n (set p.marks i 1) (first_of uses n i) ≡ false
        → waits n (set p.marks i 1) (second_of uses n i) ≡ false → q ≡ place i (mark i p)
    at_once i p q (stays e) w a b = absurd (true≢false (sym w ∙ e))
    at_once i p s (goes {q = q} {r = r} e v u) w a b = ap (place i) (second ∙ first)
      where
        first : q ≡ mark i p
        first = visit_stays v a

        second : r ≡ q
        second = visit_stays u (subst (λ (x : Placing). waits n x.marks (second_of uses n i) ≡ false) (sym first) b)

    lower_stays : (k j : ℕ) → k < n → (j < n → Uses uses n k j) → waits n (set (visits uses n k).marks k 1) j ≡ false
    lower_stays k j h u = elim (dec_lt j n) [ yes a ↦ below (lower k j h (u a)) a | no a ↦ past_stays n (set (visits uses n k).marks k 1) j (omega arith) ]
      where
        below : j < k → j < n → waits n (set (visits uses n k).marks k 1) j ≡ false
        below l a = marked_stays n (set (visits uses n k).marks k 1) j (mark-other (visits uses n k).marks k j (omega arith) ∙ visits-marked k j l a)

    standing_next : (k : ℕ) → k < n → Standing k → visits uses n (suc k) ≡ place k (mark k (visits uses n k))
    standing_next k h s =
        at_once k (visits uses n k) (visits uses n (suc k)) (visits_next k)
        (unmarked-waits n (visits uses n k).marks k h (s.later k (omega arith) h))
        (lower_stays k (first_of uses n k) h (λ a. as_first a refl))
        (lower_stays k (second_of uses n k) h (λ a. as_second a refl))

    standing : (k : ℕ) → k ≤ n → Standing k
    unfolding table
    standing zero h = record { order = start; later = λ j a b. ap (λ (p : Placing). marked p.marks j) none ∙ nothing-marked n j b }
      where
        none : visits uses n zero ≡ nothing n
        none = visits_start

        start : (visits uses n zero).order ≡ []
        start = ap (λ (p : Placing). p.order) none
    standing (suc k) h = by (standing k (omega arith))
      where
        by : Standing k → Standing (suc k)
        by s =
            let next = standing_next k h s in
            record {
              order = ap (λ (p : Placing). p.order) next ∙ ap (λ (l : List ℕ). l ++ (k ∷ [])) s.order;
              later = λ j a b. ap (λ (p : Placing). marked p.marks j) next ∙ mark-other (visits uses n k).marks k j (omega arith)
                  ∙ s.later j (omega arith) b;
            }

    pub order_as_it_stands : order_of uses n ≡ table (λ i. i) n
    unfolding order_of placed
    order_as_it_stands = (standing n (omega arith)).order
