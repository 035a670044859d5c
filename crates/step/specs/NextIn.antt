-- The next state that a valuation says (01, "The game"): the sum of latch k × 2^k, each latch at its next-state literal. Assumes nothing.
use Rattle.std.specs.Prelude.{ℕ, List, map}
use Rattle.bits.specs.Bit.{one_if}
use Rattle.bits.specs.Digits.{sum}
use Rattle.circuit.specs.Circuit.{Latch}
use Rattle.step.specs.Value.{Valuation, literal_value}

unfoldable pub next_in : Valuation → List Latch → ℕ
next_in val latches = sum 2 (map (λ (l : Latch). one_if (literal_value val l.next)) latches)
