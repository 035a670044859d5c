-- The controls tried a block of moves at a time: none of the moves passed keeps; a lane that keeps is a control that does. Assumes nothing.
use Prim.Native.Nat.{ℕ, ◌+◌, ◌*◌, ◌-◌, ◌^◌, ◌<◌, ◌≤◌, min}
use native.Mathlib.Omega.{arith}
use native.Mathlib.Decide.{dec_lt}
use mathlib.Core.Bool.{Bool, true, false}
use mathlib.Core.List.{List}
use mathlib.Core.Path.{◌≡◌, sym, ◌∙◌}
use Rattle.std.proofs.lemmas.Grind.{merely}
use Rattle.below.specs.Least.{least, any}
use Rattle.below.proofs.Laws.Least.{any_of, any-least, any_holds, any_none, none_any}
use Rattle.blocks.specs.Evaluated.{evaluated}
use Rattle.blocks.specs.Lane.{width, move_in, lits_in}
use Rattle.game.specs.Keeps.{keeps, answered}
use Rattle.game.specs.NetGame.{net_game, net_move, keeps_by}
use Rattle.net.specs.InOrder.{InOrder}
use Rattle.net.specs.Net.{net_controls}
use Rattle.checker.proofs.Laws.Held.{evaluated_holds, lane_keeps}
use Rattle.checker.proofs.Laws.Moves.{turn}

-- none of the controls whose moves lie before a block keeps in a set
pub record Tried (net : List ℕ) (set : ℕ → Bool) (s r first block : ℕ) : Type 0 where
  pub none : (k : ℕ) → first + k < block * width → k < 2 ^ net_controls net → keeps (net_game net) set s r k ≡ false

pub tried_start : (net : List ℕ) (set : ℕ → Bool) (s r first block : ℕ) → block * width ≤ first → Tried net set s r first block
tried_start net set s r first block h = record { none = λ k l m. absurd (omega arith) }

module _ (net : List ℕ) (set : ℕ → Bool) (s r first end : ℕ) (starts : first ≡ net_move net s r 0) (ends : end ≡ first + 2 ^ net_controls net) where
  abbrev p : ℕ → Bool
  p = keeps (net_game net) set s r

  module _ (order : ∥ InOrder net ∥₁) (block from count : ℕ) (low : from ≡ first - width * block)
      (high : count ≡ min (end - width * block) width - from) (words before : List ℕ)
      (holds : (j : ℕ) → j < width → lits_in words j ≡ evaluated net (move_in block j) (lits_in before j)) (tried : Tried net set s r first block) where
    abbrev q : ℕ → Bool
    q = λ i. keeps_by set net (lits_in words (from + i))

    -- a lane, and the control of its move
    in_lane : (i k : ℕ) → i < count → block * width + from + i ≡ first + k → q i ≡ p k
    unfolding move_in
    in_lane i k h e =
        lane_keeps net order set s r k words block (from + i) (merely (evaluated_holds net block before words holds)) (omega arith)
        (here ∙ turn net s r k within)
      where
        here : block * width + (from + i) ≡ net_move net s r 0 + k
        here = omega arith

        within : k < 2 ^ net_controls net
        within = omega arith

    pub tried_next : any q count ≡ false → Tried net set s r first (block + 1)
    tried_next e = record { none = λ k h l. elim (dec_lt (first + k) (block * width)) [ yes a ↦ tried.none k a l | no a ↦ new k h l (omega arith) ] }
      where
        new : (k : ℕ) → first + k < (block + 1) * width → k < 2 ^ net_controls net → block * width ≤ first + k → p k ≡ false
        new k h l a =
            let i : ℕ = first + k - (block * width + from) in
            let there : i < count = omega arith in
            sym (in_lane i k there (omega arith)) ∙ any_none q count i e there

    pub tried_kept : any q count ≡ true → true ≡ answered (net_game net) set s r
    unfolding answered net_game
    tried_kept e =
        let found : least q count < count = any-least q count e in
        let k : ℕ = block * width + from + least q count - first in
        sym (any_of p (2 ^ net_controls net) k (omega arith) (sym (in_lane (least q count) k found (omega arith)) ∙ any_holds q count e))

  pub tried_end : (block : ℕ) → Tried net set s r first block → end ≤ block * width → false ≡ answered (net_game net) set s r
  unfolding answered net_game
  tried_end block tried h = sym (none_any p (2 ^ net_controls net) (λ k l. tried.none k (omega arith) l))
