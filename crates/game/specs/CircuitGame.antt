-- The game of a circuit (01, "The game"): 2^L states, 2^U readings, 2^C controls, and the circuit's step. Assumes nothing.
use Rattle.std.specs.Prelude.{◌^◌, Bool}
use Rattle.circuit.specs.Circuit.{Circuit, latch_count, uncontrollable_count, controllable_count}
use Rattle.circuit.specs.Reset.{is_reset}
use Rattle.step.specs.Step.{step}
use Rattle.game.specs.Game.{Game}
use Rattle.game.specs.Verdict.{realizable}

unfoldable pub circuit_game : Circuit → Game
circuit_game c =
    record {
      states = 2 ^ latch_count c;
      readings = 2 ^ uncontrollable_count c;
      controls = 2 ^ controllable_count c;
      step = step c;
    }

unfoldable pub is_realizable : Circuit → Bool
is_realizable c = realizable (circuit_game c) (is_reset c)
