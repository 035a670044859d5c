-- The game of a circuit's net is the circuit's game; and a lane of a block keeps exactly if its move does. Assumes nothing.
use Prim.Native.Nat.{ℕ, ◌^◌}
use mathlib.Core.Bool.{Bool, not, ◌&&◌}
use mathlib.Core.List.{List}
use mathlib.Core.Path.{◌≡◌, ap, ◌∙◌}
use Rattle.blocks.specs.Evaluated.{evaluated, error_in, next_in}
use Rattle.blocks.specs.Lane.{Truths}
use Rattle.blocks.proofs.Laws.Evaluated.{block_error, block_next}
use Rattle.circuit.specs.Circuit.{Circuit}
use Rattle.net.specs.InOrder.{InOrder}
use Rattle.net.specs.Net.{net_controls, net_readings, net_latches, net_step}
use Rattle.net.specs.NetOf.{net_of}
use Rattle.net.proofs.Laws.NetStep.{net_step-is}
use Rattle.game.specs.CircuitGame.{circuit_game}
use Rattle.game.specs.Keeps.{keeps}
use Rattle.game.specs.NetGame.{net_move, net_game, keeps_by}

pub net_game_lem : (c : Circuit) → net_game (net_of c) ≡ circuit_game c
unfolding net_game net_move circuit_game net_of net_controls net_readings net_latches
net_game_lem c = λ x. record {
  states = 2 ^ net_latches (net_of c);
  readings = 2 ^ net_readings (net_of c);
  controls = 2 ^ net_controls (net_of c);
  step = λ s r
      k. net_step-is c s r k x;
}

module _ (net : List ℕ) (order : InOrder net) (set : ℕ → Bool) (s r k move : ℕ) (before lits : Truths) where
  pub block_keeps_lem : move ≡ net_move net s r k → lits ≡ evaluated net move before → keeps_by set net lits ≡ keeps (net_game net) set s r k
  unfolding keeps_by keeps net_game net_step
  block_keeps_lem e p =
      ap (λ (t : Truths). not (error_in net t) && set (next_in net t)) (p ∙ ap (λ (m : ℕ). evaluated net m before) e)
      ∙ λ x. not (block_error net order (net_move net s r k) before x) && set (block_next net order (net_move net s r k) before x)
