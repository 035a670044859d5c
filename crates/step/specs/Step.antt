-- A step (01, "The game"): it takes state, reading and control and gives the error, the output in this step, before the latches move, and
-- the next state, the sum of latch k × 2^k. Assumes nothing.
use Rattle.std.specs.Prelude.{ℕ, Bool, map}
use Rattle.bits.specs.Bit.{one_if}
use Rattle.bits.specs.Digits.{sum}
use Rattle.circuit.specs.Circuit.{Circuit, Latch}
use Rattle.step.specs.declared.Stepped.{Stepped}
use Rattle.step.specs.Value.{literal_value, valuation}

unfoldable pub error_of : Circuit → (state reading control : ℕ) → Bool
error_of c s r k = literal_value (valuation c s r k) c.output

unfoldable pub next_of : Circuit → (state reading control : ℕ) → ℕ
next_of c s r k = sum 2 (map (λ (l : Latch). one_if (literal_value (valuation c s r k) l.next)) c.latches)

unfoldable pub step : Circuit → (state reading control : ℕ) → Stepped
step c s r k = record { error = error_of c s r k; next = next_of c s r k }
