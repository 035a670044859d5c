-- A move by a net's counts. Assumes nothing.
use Prim.Native.Nat.{ℕ, ◌+◌, ◌*◌, ◌%◌, ◌^◌, ◌<◌, ◌≤◌, min}
use native.Mathlib.Omega.{arith}
use native.Mathlib.Nat.{mod-eq_of_lt}
use mathlib.Core.List.{List}
use mathlib.Core.Path.{◌≡◌}
use lib.Pow.{pow_pos, pow_mono}
use Rattle.circuit.specs.Limits.{base}
use Rattle.game.specs.NetGame.{net_move}
use Rattle.net.specs.Move.{move_of}
use Rattle.net.specs.Net.{net_latches, net_readings, net_controls}
use Rattle.net.proofs.Laws.Move.{join_below, lowest_below}
use Rattle.checker.specs.declared.sized.SizedNet.{SizedNet}

module _ (n : SizedNet) (s r k : ℕ) where
  abbrev limited : ℕ
  limited = move_of (min n.counts.latches base.latches) (min n.counts.readings base.inputs) (min n.counts.controls base.inputs) s r k

  pub limited_move : limited ≡ net_move n.numbers.now s r k
  unfolding net_move
  limited_move = λ x. move_of (l x) (u x) (d x) s r k
    where
      l : min n.counts.latches base.latches ≡ net_latches n.numbers.now
      l = omega (arith, n.few_latches, n.latches)

      u : min n.counts.readings base.inputs ≡ net_readings n.numbers.now
      u = omega (arith, n.few_readings, n.readings)

      d : min n.counts.controls base.inputs ≡ net_controls n.numbers.now
      d = omega (arith, n.few_controls, n.controls)

-- a move has at most as many bits as latches and inputs
pub move_few : (L U C s r k : ℕ) → L ≤ base.latches → U ≤ base.inputs → C ≤ base.inputs → move_of L U C s r k < 2 ^ (base.latches + base.inputs + base.inputs)
unfolding move_of
move_few L U C s r k l u c =
    omega (
      arith,
      join_below (L + U) C (s % 2 ^ L * 2 ^ U + r % 2 ^ U) (k % 2 ^ C) (join_below L U (s % 2 ^ L) (r % 2 ^ U) (lowest_below s L) (lowest_below r U))
          (lowest_below k C),
      pow_mono {i = L + U + C} {j = base.latches + base.inputs + base.inputs} (omega arith),
    )

-- the moves of the controls stand in turn
pub turn : (net : List ℕ) (s r k : ℕ) → k < 2 ^ net_controls net → net_move net s r 0 + k ≡ net_move net s r k
unfolding net_move move_of
turn net s r k h =
    let here : k % 2 ^ net_controls net ≡ k = mod-eq_of_lt h in
    let zero : 0 % 2 ^ net_controls net ≡ 0 = mod-eq_of_lt (pow_pos (net_controls net)) in
    omega arith
