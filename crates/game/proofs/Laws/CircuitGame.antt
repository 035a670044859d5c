-- A circuit's game is a proper one: every step leads to a state, and there is a control to choose. A number that is no control acts as its
-- low bits do. Assumes nothing.
use Prim.Native.Nat.{ℕ, ◌%◌, ◌^◌, ◌<◌}
use native.Mathlib.Nat.{mod-lt, mod-eq_of_lt}
use mathlib.Core.Path.{sym, ap, ◌∙◌}
use lib.Pow.{pow_pos}
use Rattle.circuit.specs.Circuit.{Circuit, latch_count, uncontrollable_count, controllable_count}
use Rattle.step.specs.Step.{step}
use Rattle.step.proofs.Laws.Step.{next_below, bits_above_not_read}
use Rattle.game.specs.CircuitGame.{circuit_game}
use Rattle.game.specs.Game.{Proper}
use Rattle.game.proofs.Laws.Play.{ActsAs}

pub circuit_proper : (c : Circuit) → Proper (circuit_game c)
unfolding circuit_game step
circuit_proper c = record { leads = λ s r k. next_below c s r k; choice = pow_pos (controllable_count c) }

pub circuit_acts : (c : Circuit) (s r k : ℕ) → ActsAs (circuit_game c) s r k
unfolding circuit_game
circuit_acts c s r k = record {
  control = k % n;
  below = within;
  alike =
      sym (bits_above_not_read c s r k) ∙ ap (step c (s % 2 ^ latch_count c) (r % 2 ^ uncontrollable_count c)) (sym (mod-eq_of_lt within))
      ∙ bits_above_not_read c s r (k % n);
}
  where
    n : ℕ
    n = 2 ^ controllable_count c

    within : k % n < n
    within = mod-lt k (pow_pos (controllable_count c))
