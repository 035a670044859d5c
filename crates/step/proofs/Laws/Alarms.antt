-- Alarms: a circuit that an easy mistake in the definitions would get wrong (01, "Easy to get wrong"), computed. Assumes nothing.
use mathlib.Core.Bool.{true, false}
use mathlib.Core.List.{[], ◌∷◌}
use mathlib.Core.Path.{◌≡◌, refl}
use Rattle.bits.specs.Bit.{odd, one_if}
use Rattle.bits.specs.Digits.{sum}
use Rattle.circuit.specs.Circuit.{Circuit}
use Rattle.circuit.specs.Literal.{variable, inverted, constant}
use Rattle.step.specs.Step.{step, error_of, next_of}
use Rattle.step.specs.Value.{literal_value, put, with_inputs, with_latches, with_gates, valuation}

-- the latch takes the control; the error is latch and not control
pub holds_on : Circuit
holds_on =
    record {
      largest = 3;
      inputs = record { own = 2; controllable = true } ∷ [];
      latches = record { own = 4; next = 2 } ∷ [];
      output = 6;
      gates = record { own = 6; left = 4; right = 3 } ∷ [];
      lines = 0 ∷ [];
    }

-- in state 1 control 0 errs, although the latch moves to 0 in the same step; control 1 does not
pub error_before_the_move : (step holds_on 1 0 0 ≡ record { error = true; next = 0 }) × (step holds_on 1 0 1 ≡ record { error = false; next = 1 })
unfolding holds_on step error_of next_of valuation with_inputs with_latches with_gates put literal_value variable inverted constant odd one_if sum
error_before_the_move = (refl, refl)
