-- What holds of marks: marking a gate marks it and no other; how many are left unmarked. Assumes nothing.
use Prim.Native.Nat.{ℕ, zero, suc, ◌<◌, ◌≤◌}
use native.Mathlib.Omega.{arith}
use native.Mathlib.Decide.{dec_lt, ℕ_discrete}
use native.Mathlib.Nat.{le_refl}
use mathlib.Core.Bool.{Bool, true, false, not, ◌&&◌, cond, true≢false}
use mathlib.Core.List.{List, [], ◌∷◌}
use mathlib.Core.Path.{◌≡◌, refl, sym, ap, ◌∙◌}
use lib.Dec.{eqb, ltb}
use lib.ListN.{length, get_or, set, length-set, get_or-eq_default}
use lib.Seq.{get_or-set_same, get_or-set_other}
use borrow.Author.Tests.{ltb-true, lt-ltb, le-ltb, not-true, not-false}
use Rattle.below.specs.Table.{table}
use Rattle.below.proofs.Laws.Table.{get_or_table, length_table}
use Rattle.order.specs.Placing.{marked, waits}
use Rattle.order.specs.Inner.Unseen.{unseen}

pub both_true : (a b : Bool) → (a && b) ≡ true → (a ≡ true) × (b ≡ true)
both_true true true e = (refl, refl)
both_true true false e = absurd (true≢false (sym e))
both_true false b e = absurd (true≢false (sym e))

module _ (marks : List ℕ) (i : ℕ) where
  pub mark_same : marked (set marks i 1) i ≡ true
  unfolding marked
  mark_same = elim (dec_lt i (length marks))
      [ yes h ↦ rw (get_or-set_same marks i 1 1 h) | no h ↦ rw (get_or-eq_default (set marks i 1) 1 {n = i} (omega (arith, length-set marks i 1))) ]

  pub mark-other : (j : ℕ) → ¬ (j ≡ i) → marked (set marks i 1) j ≡ marked marks j
  unfolding marked
  mark-other j d = ap (λ (x : ℕ). not (eqb x 0)) (get_or-set_other marks i j 1 1 d)

  pub mark_grows : (j : ℕ) → marked marks j ≡ true → marked (set marks i 1) j ≡ true
  mark_grows j e = elim (ℕ_discrete j i) [ yes q ↦ ap (marked (set marks i 1)) q ∙ mark_same | no d ↦ mark-other j d ∙ e ]

module _ (n : ℕ) (marks : List ℕ) (i : ℕ) where
  pub waits_below : waits n marks i ≡ true → i < n
  unfolding waits
  waits_below e = ltb-true i n (both_true (ltb i n) (not (marked marks i)) e).0

  pub waits-unmarked : waits n marks i ≡ true → marked marks i ≡ false
  unfolding waits
  waits-unmarked e = not-true (marked marks i) (both_true (ltb i n) (not (marked marks i)) e).1

  pub unmarked-waits : i < n → marked marks i ≡ false → waits n marks i ≡ true
  unfolding waits
  unmarked-waits h e = rw (lt-ltb i n h, e)

  pub marked_stays : marked marks i ≡ true → waits n marks i ≡ false
  unfolding waits
  marked_stays e = by (ltb i n)
    where
      by : (t : Bool) → (t && not (marked marks i)) ≡ false
      by true = ap not e
      by false = refl

  pub past_stays : n ≤ i → waits n marks i ≡ false
  unfolding waits
  past_stays h = ap (λ (t : Bool). t && not (marked marks i)) (le-ltb i n h)

  pub stays_marked : waits n marks i ≡ false → i < n → marked marks i ≡ true
  stays_marked e h = by (marked marks i) refl
    where
      by : (t : Bool) → marked marks i ≡ t → marked marks i ≡ true
      by true m = m
      by false m = absurd (true≢false (sym (unmarked-waits h m) ∙ e))

-- a mark in numbers
pub zero_unmarked : (marks : List ℕ) (i : ℕ) → get_or marks i 1 ≡ 0 → marked marks i ≡ false
unfolding marked
zero_unmarked marks i e = rw e

-- a gate behind the marks counts as marked
pub marked_past : (marks : List ℕ) (i : ℕ) → length marks ≤ i → true ≡ marked marks i
unfolding marked
marked_past marks i h = rw (get_or-eq_default marks 1 {n = i} h)

pub unmarked_below : (marks : List ℕ) (i : ℕ) → marked marks i ≡ false → i < length marks
unmarked_below marks i e = elim (dec_lt i (length marks)) [ yes h ↦ h | no h ↦ absurd (true≢false (marked_past marks i (omega arith) ∙ e)) ]

pub nothing-marked : (n i : ℕ) → i < n → marked (table (λ j. 0) n) i ≡ false
nothing-marked n i h = zero_unmarked (table (λ j. 0) n) i (get_or_table {A = ℕ} (λ j. 0) n i 1 h)

-- what isn't marked yet
pub unseen_most : (marks : List ℕ) → unseen marks ≤ length marks
unfolding unseen
unseen_most [] = le_refl zero
unseen_most (m ∷ ms) = by (eqb m 0) (unseen_most ms)
  where
    by : (t : Bool) → unseen ms ≤ length ms → cond t (suc (unseen ms)) (unseen ms) ≤ suc (length ms)
    by true h = omega arith
    by false h = omega arith

pub unseen-mark : (marks : List ℕ) (i : ℕ) → marked marks i ≡ false → unseen marks ≡ suc (unseen (set marks i 1))
unfolding unseen marked
unseen-mark [] i e = absurd (true≢false e)
unseen-mark (m ∷ ms) zero e = rw (not-false (eqb m 0) e)
unseen-mark (m ∷ ms) (suc i) e = by (eqb m 0) (unseen-mark ms i e)
  where
    by : (t : Bool) → unseen ms ≡ suc (unseen (set ms i 1))
        → cond t (suc (unseen ms)) (unseen ms) ≡ suc (cond t (suc (unseen (set ms i 1))) (unseen (set ms i 1)))
    by true h = ap suc h
    by false h = h

pub unseen_none : (marks : List ℕ) → ((i : ℕ) → i < length marks → marked marks i ≡ true) → unseen marks ≡ 0
unfolding unseen marked
unseen_none [] all = refl
unseen_none (m ∷ ms) all = rw (not-true (eqb m 0) (all zero (omega arith))) (unseen_none ms (λ i h. all (suc i) (omega arith)))

pub unseen-nothing : (n : ℕ) → unseen (table (λ i. 0) n) ≤ n
unseen-nothing n = omega (arith, unseen_most (table (λ i. 0) n), length_table {A = ℕ} (λ i. 0) n)

pub ruleset marking = (unmarked_below, unseen-mark)
