-- A block that is evaluated holds its moves, and a lane of it keeps exactly if its move does. Assumes nothing.
use Prim.Native.Nat.{ℕ, ◌<◌}
use mathlib.Core.Bool.{Bool}
use mathlib.Core.List.{List}
use mathlib.Core.Path.{◌≡◌}
use Rattle.std.proofs.Math.Bool.{Bool-set}
use Rattle.std.proofs.Math.Logic.{∥∥₁_elim}
use Rattle.blocks.specs.Evaluated.{evaluated}
use Rattle.blocks.specs.Lane.{Truths, width, move_in, lits_in}
use Rattle.game.specs.Keeps.{keeps}
use Rattle.game.specs.NetGame.{net_game, net_move, keeps_by}
use Rattle.game.proofs.Laws.NetGame.{block_keeps_lem}
use Rattle.net.specs.InOrder.{InOrder}
use Rattle.checker.specs.Inner.Holding.{Holding}

pub evaluated_holds :
    (net : List ℕ) (block : ℕ) (before after : List ℕ)
    → ((j : ℕ) → j < width → lits_in after j ≡ evaluated net (move_in block j) (lits_in before j)) → Holding net block after
evaluated_holds net block before after e = λ j h. (lits_in before j, e j h)

module _ (net : List ℕ) (order : ∥ InOrder net ∥₁) (set : ℕ → Bool) (s r k : ℕ) where
  pub lane_keeps :
      (words : List ℕ) (block j : ℕ) → ∥ Holding net block words ∥₁ → j < width → move_in block j ≡ net_move net s r k
      → keeps_by set net (lits_in words j) ≡ keeps (net_game net) set s r k
  lane_keeps words block j holds h e = ∥∥₁_elim order (Bool-set _ _) (λ o. ∥∥₁_elim holds (Bool-set _ _) (λ all. here o (all j h)))
    where
      here :
          InOrder net → (before : Truths) × (lits_in words j ≡ evaluated net (move_in block j) before)
          → keeps_by set net (lits_in words j) ≡ keeps (net_game net) set s r k
      here o (before, lits) = block_keeps_lem net o set s r k (move_in block j) before (lits_in words j) e lits
