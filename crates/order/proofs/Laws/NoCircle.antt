-- Where no gate reaches itself the placed gates are an order of evaluation, and only there is one (02, T-01). Assumes nothing.
use Prim.Native.Nat.{ℕ, zero, suc, ◌<◌}
use native.Mathlib.Omega.{arith}
use native.Mathlib.Decide.{dec_lt, ℕ_discrete}
use native.Mathlib.Nat.{not-suc-le-zero}
use mathlib.Core.Bool.{true, false, true≢false}
use mathlib.Core.List.{List}
use mathlib.Core.Logic.{⊎_elim}
use mathlib.Core.Path.{◌≡◌, refl, sym, ap, ◌∙◌, subst}
use lib.ListN.{get_or}
use Rattle.below.specs.Among.{among, member}
use Rattle.order.specs.Uses.{Uses, as_first, as_second, first_of, second_of}
use Rattle.order.specs.Reaches.{Reaches, at_once, through}
use Rattle.order.specs.Placing.{Placing, marked, waits, mark, place, visits, placed, order_of}
use Rattle.order.specs.Ordered.{Ordered, is_ordered}
use Rattle.order.specs.Circle.{lowest_circle}
use Rattle.order.proofs.Laws.Marks.{mark_same, mark-other, mark_grows, waits_below, waits-unmarked, past_stays}
use Rattle.order.proofs.Laws.Members.{put_cases, member_dec}
use Rattle.order.proofs.Laws.Visit.{Visit, stays, goes, visit_stays, marks_grow, operands_marked, open_before, open_after}
use Rattle.order.proofs.Laws.Meets.{uses_below, no_circle_lowest}
use Rattle.order.proofs.Laws.Grown.{Fits, Grown, grown_put, grown_ordered, test_ordered}
use Rattle.order.proofs.Laws.Placed.{visits_next, visits-whole, placed-length}

reaches_on : {uses : List ℕ} {n i j k : ℕ} → Reaches uses n i j → Uses uses n j k → Reaches uses n i k
reaches_on (at_once u) w = through u (at_once w)
reaches_on (through u r) w = through u (reaches_on r w)

module _ (uses : List ℕ) (n : ℕ) where
  -- what holds between visits: placed gates are marked, and each fits behind those in front
  record Sound (p : Placing) : Type 0 where
    marks : (j : ℕ) → member j p.order ≡ true → marked p.marks j ≡ true
    grown : Grown uses n p.order

  -- each gate that is marked and not placed reaches i
  Opens : Placing → ℕ → Type 0
  Opens p i = (j : ℕ) → j < n → marked p.marks j ≡ true → member j p.order ≡ false → Reaches uses n j i

  module _ (never : (i : ℕ) → i < n → Reaches uses n i i → ⊥) where
    -- one gate whose operands were visited
    module _ (i : ℕ) (p q r : Placing) (waiting : waits n p.marks i ≡ true) (opens : Opens p i)
        (v : Visit uses n (first_of uses n i) (mark i p) q) (w : Visit uses n (second_of uses n i) q r) where
      open_operand : (f : ℕ) → Uses uses n i f → Opens (mark i p) f
      unfolding Opens
      open_operand f u j h m o = elim (ℕ_discrete j i)
          [ yes s ↦ subst (λ (x : ℕ). Reaches uses n x f) (sym s) (at_once u) | no d ↦ reaches_on (opens j h (sym (mark-other p.marks i j d) ∙ m) o) u ]

      open_second : (f : ℕ) → Uses uses n i f → Opens q f
      unfolding Opens
      open_second f u j h m o = let was = open_before v j m o in open_operand f u j h was.0 was.1

      sound_marked : Sound p → Sound (mark i p)
      sound_marked s = record { marks = λ j m. mark_grows p.marks i j (s.marks j m); grown = s.grown }

      fresh : Sound p → member i p.order ≡ false
      fresh s = ⊎_elim (λ m. absurd (true≢false (sym (s.marks i m) ∙ waits-unmarked n p.marks i waiting))) (λ o. o) (member_dec p.order i)

      operand_placed : (j : ℕ) → Uses uses n i j → member j r.order ≡ true
      unfolding Opens
      operand_placed j u = ⊎_elim (λ m. m) (λ o. absurd (circle o)) (member_dec r.order j)
        where
          circle : member j r.order ≡ false → ⊥
          circle o = let was = open_before w j (operands_marked i v w j u) o in never j (uses_below u) (open_second j u j (uses_below u) was.0 was.1)

      sound_placed : Sound p → Sound r → Sound (place i r)
      sound_placed s t = record {
        marks = λ j m. ⊎_elim (λ old. t.marks j old) (λ same. ap (marked r.marks) same ∙ own) (put_cases r.order i j m);
        grown = grown_put uses n r.order i t.grown fit;
      }
        where
          own : marked r.marks i ≡ true
          own = marks_grow w i (marks_grow v i (mark_same p.marks i))

          new : member i r.order ≡ false
          new = open_after w i (marks_grow v i (mark_same p.marks i)) (open_after v i (mark_same p.marks i) (fresh s))

          fit : Fits uses n r.order i
          fit = record { within = waits_below n p.marks i waiting; fresh = new; behind = operand_placed }

    visit_sound : {i : ℕ} {p q : Placing} → Visit uses n i p q → Opens p i → Sound p → Sound q
    visit_sound (stays e) opens s = s
    visit_sound (goes {i = i} {p = p} {q = q} {r = r} e v w) opens s =
        sound_placed i p q r e opens v w s
        (after (second_of uses n i) q r w (λ h. open_second i p q r e opens v w (second_of uses n i) (as_second h refl)) (λ x y. visit_sound w x y)
        (after (first_of uses n i) (mark i p) q v (λ h. open_operand i p q r e opens v w (first_of uses n i) (as_first h refl)) (λ x y. visit_sound v x y)
        (sound_marked i p q r e opens v w s)))
      where
        -- an operand that is no gate changes nothing
        after : (f : ℕ) (a b : Placing) → Visit uses n f a b → (f < n → Opens a f) → (Opens a f → Sound a → Sound b) → Sound a → Sound b
        after f a b v opens ih s = elim (dec_lt f n)
            [ yes h ↦ ih (opens h) s | no h ↦ subst Sound (sym (visit_stays v (past_stays n a.marks f (omega arith)))) s ]

    visits_sound : (k : ℕ) → Sound (visits uses n k)
    unfolding visits member among Opens
    visits_sound zero = record { marks = λ j m. absurd (true≢false (sym m)); grown = λ k h. absurd (not-suc-le-zero h) }
    visits_sound (suc k) = visit_sound (visits_next uses n k) (λ j h m o. absurd (visits-whole uses n k j h m o)) (visits_sound k)

    pub no_circle_ordered : Ordered uses n (order_of uses n)
    unfolding order_of placed
    no_circle_ordered = grown_ordered uses n (visits uses n n).order (visits_sound n).grown (placed-length uses n)

  -- along uses the places fall
  places_fall : (order : List ℕ) → Ordered uses n order → {i j : ℕ} → Reaches uses n i j → (k : ℕ) → k < n → get_or order k n ≡ i
      → (m : ℕ) × (m < k) × (get_or order m n ≡ j)
  places_fall order o (at_once {j = j} u) k h e = o.before k j h (subst (λ (x : ℕ). Uses uses n x j) (sym e) u)
  places_fall order o (through {j = j} {k = t} u r) k h e = by (o.before k j h (subst (λ (x : ℕ). Uses uses n x j) (sym e) u))
      (λ m a b. places_fall order o r m a b)
    where
      by : (m : ℕ) × (m < k) × (get_or order m n ≡ j) → ((m : ℕ) → m < n → get_or order m n ≡ j → (l : ℕ) × (l < m) × (get_or order l n ≡ t))
          → (m : ℕ) × (m < k) × (get_or order m n ≡ t)
      by at ih = let on = ih at.0 (omega (arith, at.1)) at.2 in (on.0, omega (arith, at.1, on.1), on.2)

  pub ordered_no_circle : (order : List ℕ) → Ordered uses n order → (i : ℕ) → i < n → Reaches uses n i i → ⊥
  ordered_no_circle order o i h r =
      let at = o.each i h in
      let lower = places_fall order o r at.0 at.1 at.2 in
      omega (arith, lower.1, o.once lower.0 at.0 (omega (arith, lower.1, at.1)) at.1 (lower.2 ∙ sym at.2))

  -- the test of the placed gates says whether some gate reaches itself
  pub placed_in_order : is_ordered uses n (order_of uses n) ≡ true → lowest_circle uses n ≡ n
  placed_in_order e = no_circle_lowest uses n (ordered_no_circle (order_of uses n) (test_ordered uses n (order_of uses n) e))
