-- The game of a net (01, "The game"): 2^L states, 2^U readings, 2^C controls, and the net's step of each move. Assumes nothing.
use Rattle.std.specs.Prelude.{ℕ, ◌^◌, Bool, not, ◌&&◌, List}
use Rattle.blocks.specs.Evaluated.{error_in, next_in}
use Rattle.blocks.specs.Lane.{Truths}
use Rattle.net.specs.Move.{move_of}
use Rattle.net.specs.Net.{net_controls, net_readings, net_latches, net_step}
use Rattle.game.specs.Game.{Game}

-- the move of a state, a reading and a control
unfoldable pub net_move : List ℕ → (state reading control : ℕ) → ℕ
net_move net s r k = move_of (net_latches net) (net_readings net) (net_controls net) s r k

unfoldable pub net_game : List ℕ → Game
net_game net =
    record {
      states = 2 ^ net_latches net;
      readings = 2 ^ net_readings net;
      controls = 2 ^ net_controls net;
      step = λ s r k. net_step net (net_move net s r k);
    }

-- whether the step in a lane of a block keeps: no error by the truths there, and a next state in the set. That is `keeps` of the lane's
-- move, by the law block-keeps; no other definition is stated by it
unfoldable pub keeps_by : (set : ℕ → Bool) (net : List ℕ) (lits : Truths) → Bool
keeps_by set net lits = not (error_in net lits) && set (next_in net lits)
