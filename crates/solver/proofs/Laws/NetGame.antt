-- The game of a net is a fair one. Assumes nothing.
use Prim.Native.Nat.{ℕ, ◌^◌, ◌<◌, ◌≤◌}
use native.Mathlib.Omega.{arith}
use native.Mathlib.Nat.{pow-le-pow_right}
use mathlib.Core.Bool.{Bool}
use mathlib.Core.List.{List, [], ◌∷◌, map}
use mathlib.Core.Path.{refl}
use lib.ListN.{length, take, drop, length-take, length-map}
use lib.Pow.{pow_pos}
use Rattle.bits.specs.Bit.{one_if}
use Rattle.bits.specs.Digits.{AllBelow}
use Rattle.bits.proofs.Laws.Digits.{sum_below}
use Rattle.game.specs.Game.{Proper}
use Rattle.game.specs.NetGame.{net_game}
use Rattle.net.specs.Net.{net_controls, net_latches, net_nexts, net_next, net_step, net_values}
use Rattle.step.specs.Value.{literal_value}
use Rattle.step.proofs.Laws.Truths.{one_if-bit}
use Rattle.solver.specs.Inner.Fair.{Fair}
use Rattle.net.specs.Sized.{Sized}
use Rattle.solver.proofs.Laws.Moves.{few_states}

bits_below : (f : ℕ → Bool) (ls : List ℕ) → AllBelow 2 (map (λ (l : ℕ). one_if (f l)) ls)
bits_below f [] = tt
bits_below f (l ∷ ls) = (one_if-bit (f l), bits_below f ls)

next_below : (net : List ℕ) (m : ℕ) → net_next net m < 2 ^ net_latches net
unfolding net_next net_nexts
next_below net m =
    omega (arith, sum_below 2 (map bit ls) (bits_below (literal_value (net_values net m)) ls), length-map ls bit, pow-le-pow_right {n = 2} two few)
  where
    bit : ℕ → ℕ
    bit l = one_if (literal_value (net_values net m) l)

    ls : List ℕ
    ls = take (net_latches net) (drop 4 net)

    two : 1 ≤ 2
    two = omega arith

    few : length (map bit ls) ≤ net_latches net
    few = omega (arith, length-map ls bit, length-take (net_latches net) (drop 4 net))

pub net_proper : (net : List ℕ) → Proper (net_game net)
unfolding net_game net_step
net_proper net = record { leads = λ s r k. next_below net _; choice = pow_pos (net_controls net) }

pub net_fair : (net : List ℕ) → Sized net → Fair (net_game net) (2 ^ net_latches net)
unfolding net_game
net_fair net sized = record { proper = net_proper net; few = few_states net sized; all = refl }
