-- The circuit that is solved and checked: the circuit itself, or the empty one where it has too many inputs of a sort. Assumes nothing.
use Prim.Native.Nat.{ℕ, min, ◌≤◌}
use native.Mathlib.Omega.{arith}
use mathlib.Core.Bool.{Bool, true, false, ◌||◌}
use mathlib.Core.List.{List}
use mathlib.Core.Path.{◌≡◌, refl, sym, ap₂, ◌∙◌}
use borrow.Author.Tests.{ltb-false}
use lib.Dec.{ltb}
use lib.ListN.{length}
use Rattle.below.proofs.Laws.Table.{length_table}
use Rattle.circuit.specs.Circuit.{Circuit, latch_count, uncontrollable_count, controllable_count, too_many}
use Rattle.circuit.specs.Limits.{base}
use Rattle.circuit.specs.Stored.{lent, latches_of, empty_circuit, solvable}

module _ (c : Circuit) (U C : ℕ) (uncontrollable : U ≡ uncontrollable_count c) (controllable : C ≡ controllable_count c) where
  many_is : (ltb base.uncontrollable U || ltb base.controllable C) ≡ too_many base c
  unfolding too_many
  many_is = ap₂ (λ (n m : ℕ). ltb base.uncontrollable n || ltb base.controllable m) uncontrollable controllable

  pub many_solved_empty : (ltb base.uncontrollable U || ltb base.controllable C) ≡ true → empty_circuit ≡ solvable c
  unfolding solvable
  many_solved_empty e = rw (sym many_is ∙ e)

  pub few_solved : (ltb base.uncontrollable U || ltb base.controllable C) ≡ false → c ≡ solvable c
  unfolding solvable
  few_solved e = rw (sym many_is ∙ e)

-- counts that are not too many
pub few_are : (U C : ℕ) → (ltb base.uncontrollable U || ltb base.controllable C) ≡ false → (U ≤ base.uncontrollable) × (C ≤ base.controllable)
few_are U C e = by (ltb base.uncontrollable U) (ltb base.controllable C) refl refl e
  where
    by : (a b : Bool) → ltb base.uncontrollable U ≡ a → ltb base.controllable C ≡ b → (a || b) ≡ false → (U ≤ base.uncontrollable)
        × (C ≤ base.controllable)
    by true b p q e = absurd (let z : ◌≡◌ {A = ℕ} 0 1 = cc in omega arith)
    by false true p q e = absurd (let z : ◌≡◌ {A = ℕ} 0 1 = cc in omega arith)
    by false false p q e = (ltb-false _ _ p, ltb-false _ _ q)

-- L of lent lists
pub lent_latches : (largest : ℕ) (input controllable latch next : List ℕ) (output : ℕ) (gate left right : List ℕ)
    → latch_count (lent largest input controllable latch next output gate left right) ≡ min (length latch) base.latches
unfolding latch_count lent latches_of
lent_latches largest input controllable latch next output gate left right = length_table _ _
