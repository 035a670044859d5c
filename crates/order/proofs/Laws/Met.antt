-- Whether a gate meets itself, from what the two visits leave. Assumes nothing.
use Prim.Native.Nat.{ℕ}
use native.Mathlib.Omega.{arith}
use mathlib.Core.Path.{◌≡◌, ap, ◌∙◌}
use Rattle.below.specs.Table.{table}
use Rattle.order.specs.declared.graph.Gates.{Gates}
use Rattle.order.specs.Uses.{first_of, second_of}
use Rattle.order.specs.Placing.{marked, visit, nothing}
use Rattle.order.specs.Circle.{from, meets_itself}
use Rattle.order.specs.Inner.Kept.{Kept, gate_count}
use Rattle.order.specs.Inner.Unseen.{unseen}
use Rattle.order.specs.Inner.Visited.{Visited, placing_of}
use Rattle.order.proofs.Laws.Kept.{kept_on}
use Rattle.order.proofs.Laws.Placed.{unseen_all}

module _ (before clear : Gates) (gate : ℕ) (kept₀ : Kept before clear) (none : clear.marks.now ≡ table (λ i. 0) (gate_count before)) where
  unseen_clear : unseen clear.marks.now ≡ gate_count before
  unseen_clear = ap unseen none ∙ unseen_all (gate_count before)

  module _ (f : ℕ) (is_first : f ≡ first_of clear.uses.now (gate_count clear) gate) (one : Gates) (r : ℕ) (kept₁ : Kept clear one)
      (v : Visited clear f 0 one r) where
    first_met : visit before.uses.now (gate_count before) (gate_count before) (first_of before.uses.now (gate_count before) gate) (nothing (gate_count before))
        ≡ placing_of one.marks.now one.order.now r
    first_met =
        let same = v.same (gate_count clear) (omega (arith, unseen_clear, kept₀.count)) in
        rw (← none, ← kept₀.uses, ← kept₀.count, ← is_first, same)

    pub both_met : (s : ℕ) → s ≡ second_of clear.uses.now (gate_count clear) gate → (two : Gates) (t : ℕ) → Visited one s r two t
        → marked two.marks.now gate ≡ meets_itself before.uses.now (gate_count before) gate
    unfolding meets_itself from
    both_met s is_second two t w =
        let kept = kept_on kept₀ kept₁ in
        let same = w.same (gate_count one) (omega (arith, v.fewer, unseen_clear, kept.count)) in
        rw (first_met, ← kept₀.uses, ← kept₀.count, ← is_second, ← kept₁.uses, ← kept₁.count, same)
