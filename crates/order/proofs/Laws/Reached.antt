-- What a visit leaves, from what the calls inside it leave. Assumes nothing.
use Prim.Native.Nat.{ℕ, zero, suc, ◌<◌, ◌≤◌}
use native.Mathlib.Omega.{arith}
use native.Mathlib.Nat.{le_refl}
use mathlib.Core.Bool.{true, false}
use mathlib.Core.List.{List}
use mathlib.Core.Path.{◌≡◌, refl, sym, ap, ◌∙◌}
use lib.ListN.{length, set, length-set}
use Rattle.order.specs.Placing.{Placing, marked, waits, visit, mark}
use Rattle.order.specs.Inner.Unseen.{unseen}
use Rattle.order.specs.Inner.Visited.{VisitedLists, OperandsLists, placing_of, operands_of}
use Rattle.order.proofs.Laws.Marks.{unseen-mark, unmarked-waits, marked_stays}

visit_none : (uses : List ℕ) (n fuel gate : ℕ) (p : Placing) → waits n p.marks gate ≡ false → visit uses n fuel gate p ≡ p
unfolding visit
visit_none uses n zero gate p e = refl
visit_none uses n (suc fuel) gate p e = rw (e, visit)

visit_some : (uses : List ℕ) (n fuel gate : ℕ) (p : Placing) → waits n p.marks gate ≡ true
    → visit uses n (suc fuel) gate p ≡ operands_of uses n gate fuel (mark gate p)
unfolding visit
visit_some uses n fuel gate p e = rw (e, visit)

module _ (uses marks order : List ℕ) (gate count : ℕ) where
  pub stayed : marked marks gate ≡ true → VisitedLists uses marks order gate count marks order count
  stayed e = record {
    counts = refl;
    fewer = le_refl (unseen marks);
    rest = λ k h. refl;
    same = λ fuel h. visit_none uses (length marks) fuel gate (placing_of marks order count) (marked_stays (length marks) marks gate e);
  }

  module _ (h : gate < length marks) (unmarked : marked marks gate ≡ false) where
    one_less : unseen marks ≡ suc (unseen (set marks gate 1))
    one_less = unseen-mark marks gate unmarked

    pub entered : (after placed : List ℕ) (r : ℕ) → OperandsLists uses (set marks gate 1) order gate count after placed r
        → VisitedLists uses marks order gate count after placed r
    entered after placed r o = record { counts = omega (arith, o.counts, one_less); fewer = omega (arith, o.fewer, one_less); rest = o.rest; same = same }
      where
        same : (fuel : ℕ) → unseen marks ≤ fuel → visit uses (length marks) fuel gate (placing_of marks order count) ≡ placing_of after placed r
        same zero l = absurd (omega (arith, one_less))
        same (suc fuel) l =
            visit_some uses (length marks) fuel gate (placing_of marks order count) (unmarked-waits (length marks) marks gate h unmarked)
            ∙ ap (λ (n : ℕ). operands_of uses n gate fuel (placing_of (set marks gate 1) order count)) (sym (length-set marks gate 1))
            ∙ o.same fuel (omega (arith, one_less))
