-- What stands at the front of a solution's lists: the replies of the game, and its attacks. Assumes nothing.
use Prim.Native.Nat.{ℕ, ◌*◌, ◌/◌, ◌%◌, ◌^◌, ◌<◌, ◌≤◌}
use native.Mathlib.Omega.{arith}
use mathlib.Core.Bool.{Bool, cond}
use mathlib.Core.Path.{◌≡◌, ap, ◌∙◌}
use lib.ListN.{length, get_or, take}
use borrow.Author.Tests.{lt-ltb}
use Rattle.below.specs.Table.{table}
use Rattle.below.proofs.Laws.Table.{length_table, get_or_table, table_same}
use Rattle.below.proofs.Laws.Take.{take_table}
use Rattle.circuit.specs.Limits.{base}
use Rattle.game.specs.Attack.{attack}
use Rattle.game.specs.Game.{Game}
use Rattle.game.specs.Reply.{reply}
use Rattle.solver.specs.Solution.{reply_table, attack_table}

module _ (g : Game) where
  pub replies_long : length (reply_table g) ≡ 2 ^ base.latches * 2 ^ base.uncontrollable
  unfolding reply_table
  replies_long = length_table _ (2 ^ base.latches * 2 ^ base.uncontrollable)

  pub replies_front : g.states * g.readings ≤ 2 ^ base.latches * 2 ^ base.uncontrollable
      → take (g.states * g.readings) (reply_table g) ≡ table (λ i. reply g (i / g.readings) (i % g.readings)) (g.states * g.readings)
  unfolding reply_table
  replies_front few =
      take_table _ (2 ^ base.latches * 2 ^ base.uncontrollable) (g.states * g.readings) few
      ∙ table_same _ _ (g.states * g.readings)
      (λ i h. ap (λ (b : Bool). cond b (reply g (i / g.readings) (i % g.readings)) 0) (lt-ltb i (g.states * g.readings) h))

  pub attack_in_table : g.states ≤ 2 ^ base.latches → (s : ℕ) → s < g.states → get_or (attack_table g) s 0 ≡ attack g s
  unfolding attack_table
  attack_in_table few s h =
      get_or_table _ (2 ^ base.latches) s 0 (omega arith)
      ∙ ap (λ (b : Bool). cond b (attack g s) 0) (lt-ltb s g.states h)
