-- Two circuits of which whatever is asked is answered alike (the mission's rule 2, of a printed circuit read back): the same circuit (01, "The
-- numbers", last paragraph), step answers, verdict, region, replies, ranks and attacks (01, "The game"). Assumes nothing.
use Rattle.std.specs.Prelude.{◌≡◌}
use Rattle.circuit.specs.Circuit.{Circuit}
use Rattle.circuit.specs.SameCircuit.{SameCircuit}
use Rattle.step.specs.Step.{step}
use Rattle.game.specs.Attack.{attack}
use Rattle.game.specs.CircuitGame.{circuit_game, is_realizable}
use Rattle.game.specs.Rank.{rank, in_region}
use Rattle.game.specs.Reply.{reply}

pub record Alike (c d : Circuit) : Type 0 where
  pub same : SameCircuit c d
  pub steps : step c ≡ step d
  pub verdict : is_realizable c ≡ is_realizable d
  pub region : in_region (circuit_game c) ≡ in_region (circuit_game d)
  pub replies : reply (circuit_game c) ≡ reply (circuit_game d)
  pub ranks : rank (circuit_game c) ≡ rank (circuit_game d)
  pub attacks : attack (circuit_game c) ≡ attack (circuit_game d)
