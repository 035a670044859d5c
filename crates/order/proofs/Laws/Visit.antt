-- A visit as a tree, without fuel, and what holds of it: marks grow, what is newly marked was reached and is placed, its operands are marked.
-- Assumes nothing.
use Prim.Native.Nat.{ℕ, zero, suc, ◌+◌, ◌<◌, ◌≤◌}
use native.Mathlib.Omega.{arith}
use native.Mathlib.Nat.{le_refl}
use native.Mathlib.Decide.{ℕ_discrete}
use mathlib.Core.Bool.{Bool, true, false, true≢false}
use mathlib.Core.List.{List, [], ◌∷◌}
use mathlib.Core.Logic.{⊎_elim}
use mathlib.Core.Path.{◌≡◌, refl, sym, ap, ◌∙◌, subst}
use lib.ListN.{length, set, length-set, length-append}
use Rattle.below.specs.Among.{member}
use Rattle.order.specs.Uses.{Uses, as_first, as_second, first_of, second_of}
use Rattle.order.specs.Reaches.{Reaches, at_once, through}
use Rattle.order.specs.Placing.{Placing, marked, waits, mark, place, visit}
use Rattle.order.specs.Inner.Unseen.{unseen}
use Rattle.order.proofs.Laws.Marks.{mark_same, mark-other, mark_grows, waits_below, waits-unmarked, stays_marked, unseen-mark}
use Rattle.order.proofs.Laws.Members.{put_cases, put_missing, put_other}

pub data Visit (uses : List ℕ) (n : ℕ) : ℕ → Placing → Placing → Type 0 where
  stays : {i : ℕ} {p : Placing} → waits n p.marks i ≡ false → Visit uses n i p p
  goes : {i : ℕ} {p q r : Placing} → waits n p.marks i ≡ true → Visit uses n (first_of uses n i) (mark i p) q
      → Visit uses n (second_of uses n i) q r → Visit uses n i p (place i r)

-- i itself, or a gate that it reaches
pub data From (uses : List ℕ) (n i j : ℕ) : Type 0 where
  itself : i < n → i ≡ j → From uses n i j
  further : i < n → Reaches uses n i j → From uses n i j

pub record Closed (uses : List ℕ) (n : ℕ) (p : Placing) : Type 0 where
  pub operands : (j k : ℕ) → member j p.order ≡ true → Uses uses n j k → marked p.marks k ≡ true

module _ {uses : List ℕ} {n : ℕ} where
  pub from_first : (i f : ℕ) {j : ℕ} → first_of uses n i ≡ f → From uses n f j → Reaches uses n i j
  from_first i f e (itself h q) = subst (Reaches uses n i) q (at_once (as_first h e))
  from_first i f e (further h r) = through (as_first h e) r

  pub from_second : (i f : ℕ) {j : ℕ} → second_of uses n i ≡ f → From uses n f j → Reaches uses n i j
  from_second i f e (itself h q) = subst (Reaches uses n i) q (at_once (as_second h e))
  from_second i f e (further h r) = through (as_second h e) r

  pub unseen_fewer : {i : ℕ} {p q : Placing} → Visit uses n i p q → unseen q.marks ≤ unseen p.marks
  unseen_fewer {p = p} (stays e) = le_refl (unseen p.marks)
  unseen_fewer (goes {i = i} {p = p} e v w) = omega (arith, unseen_fewer v, unseen_fewer w, unseen-mark p.marks i (waits-unmarked n p.marks i e))

  pub visit_counts : {i : ℕ} {p q : Placing} → Visit uses n i p q → length q.order + unseen q.marks ≡ length p.order + unseen p.marks
  visit_counts (stays e) = refl
  visit_counts (goes {i = i} {p = p} {r = r} e v w) = omega
      (arith, visit_counts v, visit_counts w, unseen-mark p.marks i (waits-unmarked n p.marks i e), length-append r.order (i ∷ []))

  pub visit_long : {i : ℕ} {p q : Placing} → Visit uses n i p q → length q.marks ≡ length p.marks
  visit_long (stays e) = refl
  visit_long (goes {i = i} {p = p} e v w) = visit_long w ∙ visit_long v ∙ length-set p.marks i 1

  pub marks_grow : {i : ℕ} {p q : Placing} → Visit uses n i p q → (j : ℕ) → marked p.marks j ≡ true → marked q.marks j ≡ true
  marks_grow (stays e) j m = m
  marks_grow (goes {i = i} {p = p} e v w) j m = marks_grow w j (marks_grow v j (mark_grows p.marks i j m))

  pub visited_marked : {i : ℕ} {p q : Placing} → Visit uses n i p q → i < n → marked q.marks i ≡ true
  visited_marked {i} {p} (stays e) h = stays_marked n p.marks i e h
  visited_marked (goes {i = i} {p = p} e v w) h = marks_grow w i (marks_grow v i (mark_same p.marks i))

  pub newly_reached : {i : ℕ} {p q : Placing} → Visit uses n i p q → (j : ℕ) → marked p.marks j ≡ false → marked q.marks j ≡ true → From uses n i j
  newly_reached (stays e) j a b = absurd (true≢false (sym b ∙ a))
  newly_reached (goes {i = i} {p = p} {q = q} {r = r} e v w) j a b = elim (ℕ_discrete j i) [
    | yes s ↦ itself (waits_below n p.marks i e) (sym s)
    | no d ↦ by (marked q.marks j) refl d (λ x y. newly_reached v j x y)
        (λ x y. newly_reached w j x y)
  ]
    where
      low : i < n
      low = waits_below n p.marks i e

      by : (t : Bool) → marked q.marks j ≡ t → ¬ (j ≡ i)
          → (marked (set p.marks i 1) j ≡ false → marked q.marks j ≡ true → From uses n (first_of uses n i) j)
          → (marked q.marks j ≡ false → marked r.marks j ≡ true → From uses n (second_of uses n i) j) → From uses n i j
      by true m d one two = further low (from_first i _ refl (one (mark-other p.marks i j d ∙ a) m))
      by false m d one two = further low (from_second i _ refl (two m b))

  -- a gate that is marked and not placed after a visit was so before it
  pub open_before : {i : ℕ} {p q : Placing} → Visit uses n i p q → (j : ℕ) → marked q.marks j ≡ true → member j q.order ≡ false
      → (marked p.marks j ≡ true) × (member j p.order ≡ false)
  open_before (stays e) j a b = (a, b)
  open_before (goes {i = i} {p = p} {r = r} e v w) j a b =
      let missing = put_missing r.order i j b in
      let middle = open_before w j a missing.0 in
      let first = open_before v j middle.0 middle.1 in
      (sym (mark-other p.marks i j missing.1) ∙ first.0, first.1)

  -- a gate that is marked and not placed before a visit isn't placed by it
  pub open_after : {i : ℕ} {p q : Placing} → Visit uses n i p q → (j : ℕ) → marked p.marks j ≡ true → member j p.order ≡ false
      → member j q.order ≡ false
  open_after (stays e) j a b = b
  open_after (goes {i = i} {p = p} {q = q} {r = r} e v w) j a b = put_other r.order i j (open_after w j (marks_grow v j more) (open_after v j more b)) other
    where
      more : marked (set p.marks i 1) j ≡ true
      more = mark_grows p.marks i j a

      other : ¬ (j ≡ i)
      other s = true≢false (sym a ∙ ap (marked p.marks) s ∙ waits-unmarked n p.marks i e)

  -- a gate that was stayed at changes nothing
  pub visit_stays : {i : ℕ} {p q : Placing} → Visit uses n i p q → waits n p.marks i ≡ false → q ≡ p
  visit_stays (stays e) s = refl
  visit_stays (goes e v w) s = absurd (true≢false (sym e ∙ s))

  -- the operands of a gate are marked when both were visited
  pub operands_marked : (i : ℕ) {p q r : Placing} → Visit uses n (first_of uses n i) p q → Visit uses n (second_of uses n i) q r
      → (k : ℕ) → Uses uses n i k → marked r.marks k ≡ true
  operands_marked i {r = r} v w k (as_first h s) = subst (λ (x : ℕ). marked r.marks x ≡ true) s
      (marks_grow w (first_of uses n i) (visited_marked v (subst (λ (x : ℕ). x < n) (sym s) h)))
  operands_marked i {r = r} v w k (as_second h s) = subst (λ (x : ℕ). marked r.marks x ≡ true) s
      (visited_marked w (subst (λ (x : ℕ). x < n) (sym s) h))

  -- the operands of a gate that is placed are marked
  pub visit_closed : {i : ℕ} {p q : Placing} → Visit uses n i p q → Closed uses n p → Closed uses n q
  visit_closed (stays e) c = c
  visit_closed (goes {i = i} {p = p} {q = q} {r = r} e v w) c = by (λ x. visit_closed v x) (λ x. visit_closed w x)
    where
      by : (Closed uses n (mark i p) → Closed uses n q) → (Closed uses n q → Closed uses n r) → Closed uses n (place i r)
      by one two =
          let end = two (one (record { operands = λ j k m u. mark_grows p.marks i k (c.operands j k m u) })) in
          record {
            operands = λ j k m u. ⊎_elim (λ old. end.operands j k old u) (λ same. operands_marked i v w k (subst (λ (x : ℕ). Uses uses n x k) same u))
                (put_cases r.order i j m);
          }

-- the visit of the definition, with fuel for what isn't marked yet
module _ (uses : List ℕ) (n : ℕ) where
  pub visit-is : (fuel i : ℕ) (p : Placing) → unseen p.marks ≤ fuel → Visit uses n i p (visit uses n fuel i p)
  unfolding visit
  visit-is zero i p h = by (waits n p.marks i) refl
    where
      by : (t : Bool) → waits n p.marks i ≡ t → Visit uses n i p p
      by true e = absurd (omega (arith, unseen-mark p.marks i (waits-unmarked n p.marks i e)))
      by false e = stays e
  visit-is (suc fuel) i p h = by (waits n p.marks i) refl (visit-is fuel)
    where
      by : (t : Bool) → waits n p.marks i ≡ t → ((j : ℕ) (q : Placing) → unseen q.marks ≤ fuel → Visit uses n j q (visit uses n fuel j q))
          → Visit uses n i p (visit uses n (suc fuel) i p)
      by true e ih =
          let one = ih (first_of uses n i) (mark i p) (omega (arith, unseen-mark p.marks i (waits-unmarked n p.marks i e))) in
          let two = ih (second_of uses n i) (visit uses n fuel (first_of uses n i) (mark i p))
          (omega (arith, unseen_fewer one, unseen-mark p.marks i (waits-unmarked n p.marks i e))) in
          rw (e, visit) (goes e one two)
      by false e ih = rw (e, visit) (stays e)
