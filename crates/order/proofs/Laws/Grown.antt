-- An order that grows gate by gate: each fits behind those in front of it. Such an order of n gates is an order of evaluation, and the test
-- says so. Assumes nothing.
use Prim.Native.Nat.{ℕ, zero, suc, ◌<◌, ◌≤◌}
use native.Mathlib.Omega.{arith}
use native.Mathlib.Decide.{dec_lt}
use mathlib.Core.Bool.{Bool, true, false, not, ◌&&◌, ◌||◌, true≢false}
use mathlib.Core.List.{List, [], ◌∷◌, ◌++◌}
use mathlib.Core.Path.{◌≡◌, refl, sym, ap, ◌∙◌, subst, subst₂}
use lib.Dec.{eqb, ltb, leb}
use lib.ListN.{length, get_or, take, length-append, get_or-append}
use lib.Seq.{take-append-le, take_at, take-suc, get_or_at}
use borrow.Author.Tests.{ltb-true, leb-true, eqb-true, eq-eqb, lt-ltb, le-leb, not-true}
use Rattle.below.specs.Among.{member}
use Rattle.below.specs.Least.{every}
use Rattle.below.proofs.Laws.Least.{every_at, every_of}
use Rattle.below.proofs.Laws.Count.{count, count_grows, count_full}
use Rattle.order.specs.Uses.{Uses, as_first, as_second, first_of, second_of}
use Rattle.order.specs.Ordered.{Ordered, stands, fits, is_ordered}
use Rattle.order.proofs.Laws.Marks.{both_true}
use Rattle.order.proofs.Laws.Members.{put_keeps, member-place, place-member}

pub record Fits (uses : List ℕ) (n : ℕ) (front : List ℕ) (gate : ℕ) : Type 0 where
  pub within : gate < n
  pub fresh : member gate front ≡ false
  pub behind : (j : ℕ) → Uses uses n gate j → member j front ≡ true

abbrev pub Grown : List ℕ → ℕ → List ℕ → Type 0
Grown uses n order = (k : ℕ) → k < length order → Fits uses n (take k order) (get_or order k n)

-- the test of one gate
stands_gate : (n : ℕ) (front : List ℕ) (j : ℕ) → stands n front j ≡ true → j < n → member j front ≡ true
unfolding stands
stands_gate n front j e h = by (leb n j) refl e
  where
    by : (t : Bool) → leb n j ≡ t → (t || member j front) ≡ true → member j front ≡ true
    by true q s = absurd (omega (arith, leb-true n j q))
    by false q s = s

gate_stands : (n : ℕ) (front : List ℕ) (j : ℕ) → (j < n → member j front ≡ true) → stands n front j ≡ true
unfolding stands
gate_stands n front j m = elim (dec_lt j n) [ yes h ↦ by (leb n j) (m h) | no h ↦ ap (λ (t : Bool). t || member j front) (le-leb n j (omega arith)) ]
  where
    by : (t : Bool) → member j front ≡ true → (t || member j front) ≡ true
    by true q = refl
    by false q = q

module _ (uses : List ℕ) (n : ℕ) (front : List ℕ) (gate : ℕ) where
  fits_true : fits uses n front gate ≡ true → Fits uses n front gate
  unfolding fits
  fits_true e = record { within = ltb-true gate n own.0; fresh = not-true (member gate front) own.1; behind = behind }
    where
      halves : ((ltb gate n && not (member gate front)) ≡ true) × ((stands n front (first_of uses n gate) && stands n front (second_of uses n gate)) ≡ true)
      halves = both_true (ltb gate n && not (member gate front)) (stands n front (first_of uses n gate) && stands n front (second_of uses n gate)) e

      own : (ltb gate n ≡ true) × (not (member gate front) ≡ true)
      own = both_true (ltb gate n) (not (member gate front)) halves.0

      operands : (stands n front (first_of uses n gate) ≡ true) × (stands n front (second_of uses n gate) ≡ true)
      operands = both_true (stands n front (first_of uses n gate)) (stands n front (second_of uses n gate)) halves.1

      behind : (j : ℕ) → Uses uses n gate j → member j front ≡ true
      behind j (as_first h s) = stands_gate n front j (subst (λ (x : ℕ). stands n front x ≡ true) s operands.0) h
      behind j (as_second h s) = stands_gate n front j (subst (λ (x : ℕ). stands n front x ≡ true) s operands.1) h

  true_fits : Fits uses n front gate → fits uses n front gate ≡ true
  unfolding fits
  true_fits f = rw (
    lt-ltb gate n f.within,
    f.fresh,
    gate_stands n front (first_of uses n gate) (λ h. f.behind (first_of uses n gate) (as_first h refl)),
    gate_stands n front (second_of uses n gate) (λ h. f.behind (second_of uses n gate) (as_second h refl)),
  )

module _ (uses : List ℕ) (n : ℕ) where
  -- one more gate at the end
  pub grown_put : (order : List ℕ) (gate : ℕ) → Grown uses n order → Fits uses n order gate → Grown uses n (order ++ (gate ∷ []))
  grown_put order gate grown f k h = elim (dec_lt k (length order)) [
    | yes l ↦ subst₂ (Fits uses n) (sym (take-append-le k order (gate ∷ []) (omega arith))) (sym (get_or-append order (gate ∷ []) n k l)) (grown k l)
    | no l ↦ last (omega (arith, length-append order (gate ∷ [])))
  ]
    where
      last : length order ≡ k → Fits uses n (take k (order ++ (gate ∷ []))) (get_or (order ++ (gate ∷ [])) k n)
      last e = subst₂ (Fits uses n) (sym (take_at order (gate ∷ []) k e)) (sym (get_or_at order gate [] n k e)) f

  module _ (order : List ℕ) (grown : Grown uses n order) (long : length order ≡ n) where
    -- k gates of the front are below n
    enough : (k : ℕ) → k ≤ n → k ≤ count (λ j. member j (take k order)) n
    enough zero h = omega arith
    enough (suc k) h = more (enough k (omega arith))
      where
        at : Fits uses n (take k order) (get_or order k n)
        at = grown k (omega arith)

        next : take (suc k) order ≡ take k order ++ (get_or order k n ∷ [])
        next = take-suc order k n (omega arith)

        keeps : (j : ℕ) → j < n → member j (take k order) ≡ true → member j (take (suc k) order) ≡ true
        keeps j l m = ap (member j) next ∙ put_keeps (take k order) (get_or order k n) j m

        here : member (get_or order k n) (take (suc k) order) ≡ true
        here = place-member order (suc k) k (get_or order k n) n (omega arith) (omega arith) refl

        more : k ≤ count (λ j. member j (take k order)) n → suc k ≤ count (λ j. member j (take (suc k) order)) n
        more ih = omega (
          arith,
          count_grows (λ j. member j (take k order)) (λ j. member j (take (suc k) order)) n (get_or order k n) keeps at.within
              at.fresh here,
        )

    pub grown_ordered : Ordered uses n order
    grown_ordered = record { long = long; within = λ k h. (grown k (omega arith)).within; each = each; once = once; before = before }
      where
        each : (gate : ℕ) → gate < n → (k : ℕ) × (k < n) × (get_or order k n ≡ gate)
        each gate h = member-place order n gate n (count_full (λ j. member j (take n order)) n gate (enough n (omega arith)) h)

        apart : (k m : ℕ) → k < m → m < n → get_or order k n ≡ get_or order m n → ⊥
        apart k m h l e = true≢false (sym (place-member order m k (get_or order m n) n h (omega arith) e) ∙ (grown m (omega arith)).fresh)

        once : (k m : ℕ) → k < n → m < n → get_or order k n ≡ get_or order m n → k ≡ m
        once k m h l e = elim (dec_lt k m)
            [ yes a ↦ absurd (apart k m a l e) | no a ↦ elim (dec_lt m k) [ yes b ↦ absurd (apart m k b h (sym e)) | no b ↦ omega arith ] ]

        before : (k j : ℕ) → k < n → Uses uses n (get_or order k n) j → (m : ℕ) × (m < k) × (get_or order m n ≡ j)
        before k j h u = member-place order k j n ((grown k (omega arith)).behind j u)

  ordered_grown : (order : List ℕ) → Ordered uses n order → Grown uses n order
  ordered_grown order o k h = record { within = o.within k low; fresh = fresh (member (get_or order k n) (take k order)) refl; behind = behind }
    where
      low : k < n
      low = omega (arith, o.long)

      fresh : (t : Bool) → member (get_or order k n) (take k order) ≡ t → member (get_or order k n) (take k order) ≡ false
      fresh true e = let at = member-place order k (get_or order k n) n e in absurd (omega (arith, at.1, o.once at.0 k (omega (arith, at.1)) low at.2))
      fresh false e = e

      behind : (j : ℕ) → Uses uses n (get_or order k n) j → member j (take k order) ≡ true
      behind j u = let at = o.before k j low u in place-member order k at.0 j n at.1 (omega (arith, at.1)) at.2

  -- the test is the statement
  pub test_ordered : (order : List ℕ) → is_ordered uses n order ≡ true → Ordered uses n order
  unfolding is_ordered
  test_ordered order e = grown_ordered order
      (λ k h. fits_true uses n (take k order) (get_or order k n)
      (every_at (λ k. fits uses n (take k order) (get_or order k n)) n k parts.1 (omega (arith, long)))) long
    where
      parts : (eqb (length order) n ≡ true) × (every (λ k. fits uses n (take k order) (get_or order k n)) n ≡ true)
      parts = both_true (eqb (length order) n) (every (λ k. fits uses n (take k order) (get_or order k n)) n) e

      long : length order ≡ n
      long = eqb-true (length order) n parts.0

  pub ordered_test : (order : List ℕ) → Ordered uses n order → is_ordered uses n order ≡ true
  unfolding is_ordered
  ordered_test order o = rw (
    eq-eqb (length order) n o.long,
    every_of (λ k. fits uses n (take k order) (get_or order k n)) n
        (λ k h. true_fits uses n (take k order) (get_or order k n) (ordered_grown order o k (omega (arith, o.long)))),
  )
