-- The loop that visits all gates in turn: after k of them marks and places are those of the definition. Assumes nothing.
use Prim.Native.Nat.{ℕ, ◌+◌, ◌<◌, ◌≤◌}
use native.Mathlib.Omega.{arith}
use native.Mathlib.Numerals.{add-one}
use mathlib.Core.List.{List}
use mathlib.Core.Path.{◌≡◌, sym, ap, ◌∙◌}
use lib.Seq.{take_all}
use Rattle.below.specs.Table.{table}
use Rattle.order.specs.Placing.{Placing, visits, placed, order_of}
use Rattle.order.specs.declared.graph.Gates.{Gates}
use Rattle.order.specs.Inner.Kept.{Kept, gate_count}
use Rattle.order.specs.Inner.Unseen.{unseen}
use Rattle.order.specs.Inner.Visited.{Visited, placing_of}
use Rattle.order.proofs.Laws.Kept.{kept_on}
use Rattle.order.proofs.Laws.Placed.{unseen_all, placed_all}

pub record Going (before now : Gates) (k count : ℕ) : Type 0 where
  pub kept : Kept before now
  pub within : k ≤ gate_count before
  pub counts : count + unseen now.marks.now ≡ gate_count before
  pub same : visits before.uses.now (gate_count before) k ≡ placing_of now.marks.now now.order.now count

module _ (before now : Gates) where
  pub going_start : Kept before now → now.marks.now ≡ table (λ i. 0) (gate_count before) → Going before now 0 0
  unfolding visits
  going_start kept clear = record {
    kept = kept;
    within = omega arith;
    counts = omega (arith, ap unseen clear, unseen_all (gate_count before));
    same = ap (λ (l : List ℕ). placing_of l now.order.now 0) (sym clear);
  }

  module _ (k count : ℕ) (g : Going before now k count) where
    pub going_next : (after : Gates) (r : ℕ) → k < gate_count before → Kept now after → Visited now k count after r → Going before after (k + 1) r
    unfolding visits
    going_next after r h kept v =
        let next = v.same (gate_count now) (omega (arith, g.counts, g.kept.count)) in record {
          kept = kept_on g.kept kept;
          within = omega arith;
          counts = v.counts ∙ g.counts;
          same = rw (add-one k, g.same, ← g.kept.uses, ← g.kept.count, next);
        }

    pub going_end : gate_count before ≤ k → now.order.now ≡ order_of before.uses.now (gate_count before)
    unfolding order_of placed
    going_end h = sym (take_all count now.order.now (omega (arith, g.counts, none, now.long, g.kept.count))) ∙ ap (λ (p : Placing). p.order) (sym here)
      where
        here : visits before.uses.now (gate_count before) (gate_count before) ≡ placing_of now.marks.now now.order.now count
        here = ap (visits before.uses.now (gate_count before)) (omega (arith, g.within)) ∙ g.same

        none : unseen now.marks.now ≡ 0
        none = ap (λ (p : Placing). unseen p.marks) (sym here) ∙ placed_all before.uses.now (gate_count before)

pub ruleset turns = (going_start, going_next, going_end)
