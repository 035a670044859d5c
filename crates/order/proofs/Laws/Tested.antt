-- The loop that tests an order: the gates in front are marked, each fitted, and marks say whether the next one does. Assumes nothing.
use Prim.Native.Nat.{ℕ, ◌+◌, ◌<◌, ◌≤◌}
use native.Mathlib.Omega.{arith}
use native.Mathlib.Numerals.{add-one}
use native.Mathlib.Decide.{dec_lt, ℕ_discrete}
use native.Mathlib.Nat.{not-suc-le-zero}
use mathlib.Core.Bool.{Bool, true, false, not, ◌&&◌, ◌||◌, or-false, or-true, and-false, true≢false}
use mathlib.Core.List.{List, [], ◌∷◌, ◌++◌}
use mathlib.Core.Path.{◌≡◌, refl, sym, ap, ap₂, ◌∙◌, subst}
use lib.Dec.{eqb, ltb, leb}
use lib.ListN.{length, get_or, take, set, length-set}
use lib.Seq.{take-suc}
use borrow.Author.Tests.{eq-eqb, ne_eqb, lt-leb, le-leb, lt-ltb, le-ltb}
use Rattle.below.specs.Among.{among, member}
use Rattle.below.specs.Least.{every}
use Rattle.below.specs.Table.{table}
use Rattle.below.proofs.Laws.Least.{every_at, every_of}
use Rattle.below.proofs.Laws.Table.{length_table}
use Rattle.order.specs.Uses.{first_of, second_of}
use Rattle.order.specs.Placing.{marked}
use Rattle.order.specs.Ordered.{stands, fits, is_ordered}
use Rattle.order.specs.Inner.FitsMarked.{fits_marked}
use Rattle.order.proofs.Laws.Marks.{mark_same, mark-other, nothing-marked, both_true, marked_past, unmarked_below}
use Rattle.std.proofs.lemmas.List.{get_or_default}
use Rattle.below.proofs.Laws.Among.{member_snoc}

module _ (uses marks : List ℕ) (gate : ℕ) where
  pub fits-unmarked : fits_marked uses marks gate ≡ true → gate < length marks
  unfolding fits_marked
  fits-unmarked e = unmarked_below marks gate (by (marked marks gate) (both_true (not (marked marks gate)) _ e).0)
    where
      by : (t : Bool) → not t ≡ true → t ≡ false
      by true e = absurd (true≢false (sym e))
      by false e = refl

-- a gate that doesn't stand in front, and one that was put there
stands-not : (n : ℕ) (front : List ℕ) (j : ℕ) → not (stands n front j) ≡ (ltb j n && not (member j front))
unfolding stands
stands-not n front j = elim (dec_lt j n) [ yes h ↦ rw (lt-leb n j h, lt-ltb j n h) | no h ↦ rw (le-leb n j (omega arith), le-ltb j n (omega arith)) ]

stands-put : (n : ℕ) (front : List ℕ) (gate j : ℕ) → ¬ (j ≡ gate) → stands n (front ++ (gate ∷ [])) j ≡ stands n front j
unfolding stands
stands-put n front gate j d = rw (member_snoc j front gate, ne_eqb j gate d, or-false (member j front))

put-stands : (n : ℕ) (front : List ℕ) (gate : ℕ) → stands n (front ++ (gate ∷ [])) gate ≡ true
unfolding stands
put-stands n front gate = rw (member_snoc gate front gate, eq-eqb gate gate refl, or-true (member gate front), or-true (leb n gate))

module _ (uses : List ℕ) (n : ℕ) (order : List ℕ) where
  abbrev fitting : ℕ → Bool
  fitting k = fits uses n (take k order) (get_or order k n)

  pub record Tested (k : ℕ) (marks : List ℕ) : Type 0 where
    pub within : k ≤ n
    pub long : length marks ≡ n
    pub front : (j : ℕ) → marked marks j ≡ stands n (take k order) j
    pub passed : (j : ℕ) → j < k → fits uses n (take j order) (get_or order j n) ≡ true

  pub tested_start : (marks : List ℕ) → marks ≡ table (λ i. 0) n → Tested 0 marks
  unfolding stands member among
  tested_start marks e =
      record { within = omega arith; long = ap length e ∙ length_table {A = ℕ} (λ i. 0) n; front = front; passed = λ j h. absurd (not-suc-le-zero h) }
    where
      front : (j : ℕ) → marked marks j ≡ (leb n j || false)
      front j = elim (dec_lt j n) [
        | yes h ↦ ap (λ (l : List ℕ). marked l j) e ∙ nothing-marked n j h ∙ sym (ap (λ (t : Bool). t || false) (lt-leb n j h))
        | no h ↦ sym (marked_past marks j (omega (arith, ap length e, length_table {A = ℕ} (λ i. 0) n)))
            ∙ sym (ap (λ (t : Bool). t || false) (le-leb n j (omega arith)))
      ]

  module _ (k : ℕ) (marks : List ℕ) (t : Tested k marks) where
    -- marks say whether the next gate fits
    marks_fit : fits_marked uses marks (get_or order k n) ≡ fits uses n (take k order) (get_or order k n)
    unfolding fits_marked fits
    marks_fit = ap₂ ◌&&◌ own (ap₂ ◌&&◌ (operand first_of) (operand second_of))
      where
        own : not (marked marks (get_or order k n)) ≡ (ltb (get_or order k n) n && not (member (get_or order k n) (take k order)))
        own = ap not (t.front (get_or order k n)) ∙ stands-not n (take k order) (get_or order k n)

        operand : (of : List ℕ → ℕ → ℕ → ℕ) → marked marks (of uses (length marks) (get_or order k n)) ≡ stands n (take k order) (of uses n (get_or order k n))
        operand of = ap (λ (m : ℕ). marked marks (of uses m (get_or order k n))) t.long ∙ t.front (of uses n (get_or order k n))

    tested_next : k < n → length order ≡ n → fits uses n (take k order) (get_or order k n) ≡ true → Tested (k + 1) (set marks (get_or order k n) 1)
    tested_next h wide e = record { within = omega arith; long = length-set marks (get_or order k n) 1 ∙ t.long; front = front; passed = passed }
      where
        next : take (k + 1) order ≡ take k order ++ (get_or order k n ∷ [])
        next = ap (λ (m : ℕ). take m order) (add-one k) ∙ take-suc order k n (omega arith)

        same : marked (set marks (get_or order k n) 1) (get_or order k n) ≡ stands n (take (k + 1) order) (get_or order k n)
        same = mark_same marks (get_or order k n) ∙ sym (ap (λ (l : List ℕ). stands n l (get_or order k n)) next ∙ put-stands n (take k order)
            (get_or order k n))

        front : (j : ℕ) → marked (set marks (get_or order k n) 1) j ≡ stands n (take (k + 1) order) j
        front j = elim (ℕ_discrete j (get_or order k n)) [
          | yes q ↦ rw (q, same)
          | no d ↦ mark-other marks (get_or order k n) j d ∙ t.front j
              ∙ sym (ap (λ (l : List ℕ). stands n l j) next ∙ stands-put n (take k order) (get_or order k n) j d)
        ]

        passed : (j : ℕ) → j < k + 1 → fits uses n (take j order) (get_or order j n) ≡ true
        passed j l = elim (dec_lt j k) [ yes a ↦ t.passed j a | no a ↦ last j (omega arith) ]
          where
            last : (j : ℕ) → j ≡ k → fits uses n (take j order) (get_or order j n) ≡ true
            last j q = rw (q, e)

    tested_fails : k < n → fits uses n (take k order) (get_or order k n) ≡ false → false ≡ is_ordered uses n order
    unfolding is_ordered
    tested_fails h e = sym (ap (λ (b : Bool). eqb (length order) n && b) (by (every fitting n) refl) ∙ and-false (eqb (length order) n))
      where
        by : (b : Bool) → every fitting n ≡ b → every fitting n ≡ false
        by true q = absurd (true≢false (sym (every_at fitting n k q h) ∙ e))
        by false q = q

    pub tested_end : n ≤ k → length order ≡ n → true ≡ is_ordered uses n order
    unfolding is_ordered
    tested_end h wide = sym (rw (eq-eqb (length order) n wide, every_of fitting n (λ j l. t.passed j (omega arith))))

    -- the gate as it was read
    module _ (h : k < n) (wide : length order ≡ n) (gate : ℕ) (read : gate ≡ get_or order k 0) where
      same_gate : gate ≡ get_or order k n
      same_gate = read ∙ get_or_default order k 0 n (omega arith)

      same_fit : fits_marked uses marks gate ≡ fits uses n (take k order) (get_or order k n)
      same_fit = ap (fits_marked uses marks) same_gate ∙ marks_fit

      pub looked_next : fits_marked uses marks gate ≡ true → Tested (k + 1) (set marks gate 1)
      looked_next e = subst (λ (x : ℕ). Tested (k + 1) (set marks x 1)) (sym same_gate) (tested_next h wide (sym same_fit ∙ e))

      pub looked_fails : fits_marked uses marks gate ≡ false → false ≡ is_ordered uses n order
      looked_fails e = tested_fails h (sym same_fit ∙ e)

pub ruleset turns = (tested_start, looked_next, looked_fails, tested_end, fits-unmarked)
