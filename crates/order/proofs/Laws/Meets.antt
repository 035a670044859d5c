-- Visiting a gate's operands from nothing meets it exactly if it reaches itself (02, T-01). Assumes nothing.
use Prim.Native.Nat.{ℕ, ◌<◌}
use native.Mathlib.Omega.{arith}
use mathlib.Core.Bool.{Bool, true, false, true≢false}
use mathlib.Core.List.{List}
use mathlib.Core.Logic.{⊎_elim}
use mathlib.Core.Path.{◌≡◌, refl, sym, ◌∙◌}
use Rattle.below.specs.Among.{among, member}
use Rattle.below.specs.Least.{least}
use Rattle.below.proofs.Laws.Least.{least_holds, least-before, least_none}
use Rattle.order.specs.Uses.{Uses, as_first, as_second, first_of, second_of}
use Rattle.order.specs.Reaches.{Reaches, at_once, through}
use Rattle.order.specs.Placing.{Placing, marked, visit, nothing}
use Rattle.order.specs.Circle.{from, meets_itself, lowest_circle}
use Rattle.order.proofs.Laws.Marks.{nothing-marked, unseen-nothing}
use Rattle.order.proofs.Laws.Members.{member_dec}
use Rattle.order.proofs.Laws.Visit.{
  Visit,
  Closed,
  visit-is,
  unseen_fewer,
  operands_marked,
  newly_reached,
  open_before,
  visit_closed,
  from_first,
  from_second,
}

pub uses_below : {uses : List ℕ} {n i j : ℕ} → Uses uses n i j → j < n
uses_below (as_first h e) = h
uses_below (as_second h e) = h

module _ (uses : List ℕ) (n i : ℕ) where
  abbrev first : Placing
  first = visit uses n n (first_of uses n i) (nothing n)

  abbrev both : Placing
  both = visit uses n n (second_of uses n i) first

  to_first : Visit uses n (first_of uses n i) (nothing n) first
  to_first = visit-is uses n n (first_of uses n i) (nothing n) (omega (arith, unseen-nothing n))

  to_both : Visit uses n (second_of uses n i) first both
  to_both = visit-is uses n n (second_of uses n i) first (omega (arith, unseen-nothing n, unseen_fewer to_first))

  pub meets_reaches : i < n → meets_itself uses n i ≡ true → Reaches uses n i i
  unfolding meets_itself from
  meets_reaches h e = by (marked first.marks i) refl
    where
      by : (t : Bool) → marked first.marks i ≡ t → Reaches uses n i i
      by true m = from_first i (first_of uses n i) refl (newly_reached to_first i (nothing-marked n i h) m)
      by false m = from_second i (second_of uses n i) refl (newly_reached to_both i m e)

  closed : Closed uses n both
  unfolding member among
  closed = visit_closed to_both (visit_closed to_first (record { operands = λ j k m u. absurd (true≢false (sym m)) }))

  onward : (j k : ℕ) → j < n → marked both.marks j ≡ true → Uses uses n j k → marked both.marks k ≡ true
  onward j k h m u = ⊎_elim (λ placed. closed.operands j k placed u) (λ missing. absurd (never missing)) (member_dec both.order j)
    where
      never : member j both.order ≡ false → ⊥
      never missing =
          let middle = open_before to_both j m missing in
          true≢false (sym (open_before to_first j middle.0 middle.1).0 ∙ nothing-marked n j h)

  along : {j k : ℕ} → Reaches uses n j k → j < n → marked both.marks j ≡ true → marked both.marks k ≡ true
  along (at_once {i = j} {j = k} u) h m = onward j k h m u
  along (through {i = j} {j = l} u r) h m = along r (uses_below u) (onward j l h m u)

  reached_marked : {k : ℕ} → Reaches uses n i k → marked both.marks k ≡ true
  reached_marked (at_once {j = j} u) = operands_marked i to_first to_both j u
  reached_marked (through {j = j} u r) = along r (uses_below u) (operands_marked i to_first to_both j u)

  pub reaches_meets : Reaches uses n i i → meets_itself uses n i ≡ true
  unfolding meets_itself from
  reaches_meets r = reached_marked r

-- the lowest gate that reaches itself
module _ (uses : List ℕ) (n : ℕ) where
  pub lowest_reaches : lowest_circle uses n < n → Reaches uses n (lowest_circle uses n) (lowest_circle uses n)
  unfolding lowest_circle
  lowest_reaches h = meets_reaches uses n (least (meets_itself uses n) n) h (least_holds (meets_itself uses n) n h)

  pub below_lowest : (i : ℕ) → i < lowest_circle uses n → Reaches uses n i i → ⊥
  unfolding lowest_circle
  below_lowest i h r = true≢false (sym (reaches_meets uses n i r) ∙ least-before (meets_itself uses n) n i h)

  pub no_circle_lowest : ((i : ℕ) → i < n → Reaches uses n i i → ⊥) → lowest_circle uses n ≡ n
  unfolding lowest_circle
  no_circle_lowest never = least_none (meets_itself uses n) n (λ j h. by j h (meets_itself uses n j) refl)
    where
      by : (j : ℕ) → j < n → (t : Bool) → meets_itself uses n j ≡ t → meets_itself uses n j ≡ false
      by j h true e = absurd (never j h (meets_reaches uses n j h e))
      by j h false e = e
