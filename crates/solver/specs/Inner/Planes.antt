-- The planes of a block, in a slot: a word for each latch that a circuit may have, one for the error, and one more than the block's number,
-- 0 where none is held. Assumes nothing.
use Rattle.std.specs.Prelude.{ℕ, ◌+◌, ◌-◌, ◌%◌, ◌<◌, Bool, not, ◌&&◌, List, [], ◌≡◌, length, get_or}
use Rattle.below.specs.Table.{table}
use Rattle.blocks.specs.Evaluated.{literals}
use Rattle.blocks.specs.Lane.{width, lane, move_in}
use Rattle.circuit.specs.Limits.{base}
use Rattle.keeping.specs.Inner.InLane.{number_of}
use Rattle.net.specs.Net.{net_latches, net_output}
use Rattle.solver.specs.Inner.Moves.{move_keeps}
use Rattle.solver.specs.declared.planes.Slot.{Slot}

-- the planes of a block that was evaluated into words, one for each literal
unfoldable pub planes_of : (net words : List ℕ) (mark : ℕ) → Slot
planes_of net words mark =
    record {
      next = table (λ k. get_or words (get_or net (4 + k) 0 % literals) 0) base.latches;
      error = get_or words (net_output net % literals) 0;
      mark = mark;
    }

-- a slot, or an empty one where there is none
abbrev pub slot_at : List Slot → (i : ℕ) → Slot
slot_at slots i = get_or slots i (record { next = []; error = 0; mark = 0 })

-- what a slot says of each lane is what the move there does
pub record HeldAt (net : List ℕ) (slot : Slot) : Type 0 where
  pub long : length slot.next ≡ base.latches
  pub says : 0 < slot.mark → (j : ℕ) → j < width → (set : ℕ → Bool)
      → (not (lane slot.error j) && set (number_of (λ k. get_or slot.next k 0) (net_latches net) j)) ≡ move_keeps net set (move_in (slot.mark - 1) j)

pub record AllHeld (net : List ℕ) (slots : List Slot) : Type 0 where
  pub at : (i : ℕ) → i < length slots → HeldAt net (slot_at slots i)

-- a slot that is marked with a block
pub record Holds (slots : List Slot) (i block : ℕ) : Type 0 where
  pub within : i < length slots
  pub marked : (slot_at slots i).mark ≡ block + 1
