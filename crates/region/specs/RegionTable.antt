-- A region as bytes (01, "The certificate", kind 2): state s at bit s mod 8 of byte s div 8, for as many states as a circuit may have; bits
-- that stand for no state are 0. Assumes nothing.
use Rattle.std.specs.Prelude.{ℕ, ◌/◌, ◌^◌, Bool, List}
use Rattle.below.specs.Table.{table}
use Rattle.bits.specs.BitBytes.{bit_byte}
use Rattle.circuit.specs.Limits.{base}

unfoldable pub region_table : (ℕ → Bool) → (states : ℕ) → List ℕ
region_table set states = table (bit_byte set states) (2 ^ base.latches / 8)
