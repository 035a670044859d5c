-- Moves that keep (01, "The game"), by their number: a place is a state and a reading, state × 2^U + reading, and a move a place and a
-- control, place × 2^C + control. Assumes nothing.
use Rattle.std.specs.Prelude.{ℕ, ◌+◌, ◌*◌, ◌^◌, Bool, not, ◌&&◌, List}
use Rattle.net.specs.Net.{net_controls, net_readings, net_latches, net_error, net_next}

-- this move gives error 0 and a next state in the set
unfoldable pub move_keeps : List ℕ → (set : ℕ → Bool) (move : ℕ) → Bool
move_keeps net set m = not (net_error net m) && set (net_next net m)

unfoldable pub place_keeps : List ℕ → (set : ℕ → Bool) (place control : ℕ) → Bool
place_keeps net set p k = move_keeps net set (p * 2 ^ net_controls net + k)

unfoldable pub places : List ℕ → ℕ
places net = 2 ^ net_latches net * 2 ^ net_readings net
