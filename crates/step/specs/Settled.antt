-- What the lines of a circuit mean in a step (01, "The file", rules 3 and 4; "The game"): a valuation is settled if each latch and input has
-- its bit and each gate is true exactly if both of its operands are. The order in which gates stand plays no part. Assumes nothing.
use Rattle.std.specs.Prelude.{ℕ, true, false, not, ◌&&◌, ◌≡◌, length}
use mathlib.Core.List.{List, ◌∷◌, ◌++◌, Memᴰ}
use Rattle.bits.specs.Bit.{bit, one_if}
use Rattle.circuit.specs.Circuit.{Circuit, Input, Latch, Gate, inputs_that}
use Rattle.step.specs.Defined.{input_variable, latch_variable, gate_variable}
use Rattle.step.specs.Value.{Valuation, literal_value}

pub record Settled (c : Circuit) (state reading control : ℕ) (val : Valuation) : Type 0 where
  -- a latch with k latches above it has bit k of the state
  pub latches :
      (above below : List Latch) (l : Latch) →
      c.latches ≡ above ++ (l ∷ below) →
      one_if (val (latch_variable l)) ≡ bit state (length above)
  -- an uncontrollable input with k such inputs above it has bit k of the reading
  pub uncontrollable :
      (above below : List Input) (i : Input) →
      c.inputs ≡ above ++ (i ∷ below) → i.controllable ≡ false →
      one_if (val (input_variable i)) ≡ bit reading (inputs_that (λ j. not j.controllable) above)
  -- a controllable input with k such inputs above it has bit k of the control
  pub controllable :
      (above below : List Input) (i : Input) →
      c.inputs ≡ above ++ (i ∷ below) → i.controllable ≡ true →
      one_if (val (input_variable i)) ≡ bit control (inputs_that (λ j. j.controllable) above)
  -- a gate is true exactly if both of its operands are
  pub gates :
      (g : Gate) → Memᴰ g c.gates →
      val (gate_variable g) ≡ (literal_value val g.left && literal_value val g.right)
