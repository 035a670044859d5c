-- The counts of lent lists, cut at their counts, are those of the circuit that they say. Assumes nothing.
use Prim.Native.Nat.{ℕ, min}
use native.Mathlib.Omega.{arith}
use mathlib.Core.Bool.{not}
use mathlib.Core.List.{List}
use mathlib.Core.Path.{◌≡◌, ap, ◌∙◌}
use lib.ListN.{length, take, length-take}
use Rattle.std.proofs.lemmas.List.{take_min}
use Rattle.circuit.specs.Circuit.{Circuit, Input, inputs_that, latch_count, uncontrollable_count, controllable_count}
use Rattle.circuit.specs.Limits.{base}
use Rattle.circuit.specs.Stored.{lent, inputs_of}
use Rattle.circuit.proofs.Laws.Solvable.{lent_latches}
use Rattle.capi.specs.Plain.{read_answer}
use Rattle.capi.specs.Inner.Counted.{CountedAs}

module _ (inputs latches i l : ℕ) (input controllable latch : List ℕ) (some : i ≡ min inputs (length input)) (few : l ≡ min latches (length latch)) where
  cut : take i input ≡ take inputs input
  cut = ap (λ (n : ℕ). take n input) some ∙ take_min inputs input

  pub counts_of-lent :
      (L U C : ℕ) → L ≡ min l base.latches → U ≡ inputs_that (λ (j : Input). not j.controllable) (inputs_of (take i input) controllable)
      → C ≡ inputs_that (λ (j : Input). j.controllable) (inputs_of (take i input) controllable)
      → CountedAs inputs input controllable latches latch (record { number = 0; place = 0; latches = L; readings = U; controls = C })
  unfolding read_answer uncontrollable_count controllable_count lent
  counts_of-lent L U C e f g largest next output gate left right =
      λ x. record { number = 0; place = 0; latches = L-is x; readings = U-is x; controls = C-is x }
    where
      c : Circuit
      c = lent largest (take inputs input) controllable (take latches latch) next output gate left right

      L-is : L ≡ latch_count c
      L-is = omega (arith, lent_latches largest (take inputs input) controllable (take latches latch) next output gate left right, length-take latches latch)

      U-is : U ≡ uncontrollable_count c
      U-is = f ∙ ap (λ (is : List ℕ). inputs_that (λ (j : Input). not j.controllable) (inputs_of is controllable)) cut

      C-is : C ≡ controllable_count c
      C-is = g ∙ ap (λ (is : List ℕ). inputs_that (λ (j : Input). j.controllable) (inputs_of is controllable)) cut
