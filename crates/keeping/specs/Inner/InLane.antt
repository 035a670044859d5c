-- Whether a lane of a block of moves keeps (01, "The game"): no error there, and a next state in the set; a word for the error, and one for
-- each latch. Assumes nothing.
use Rattle.std.specs.Prelude.{ℕ, min, Bool, not, ◌&&◌, List, length, get_or}
use Rattle.below.specs.Table.{table}
use Rattle.bits.specs.Bit.{one_if}
use Rattle.bits.specs.Digits.{sum}
use Rattle.blocks.specs.Lane.{lane}
use Rattle.circuit.specs.Limits.{base}

-- the number of n bits whose bit k is lane j of word k
unfoldable pub number_of : (word : ℕ → ℕ) (n j : ℕ) → ℕ
number_of word n j = sum 2 (table (λ k. one_if (lane (word k) j)) n)

-- no more bits than a circuit may have latches
unfoldable pub lane_number : (words : List ℕ) (j : ℕ) → ℕ
lane_number words j = number_of (λ k. get_or words k 0) (min (length words) base.latches) j

unfoldable pub keeps_in : (set : ℕ → Bool) (error : ℕ) (next : List ℕ) (j : ℕ) → Bool
keeps_in set error next j = not (lane error j) && set (lane_number next j)
