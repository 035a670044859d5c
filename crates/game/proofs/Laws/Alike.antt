-- Circuits that are the same value answer alike. Assumes nothing.
use mathlib.Core.Path.{◌≡◌, ap}
use Rattle.circuit.specs.Circuit.{Circuit}
use Rattle.circuit.proofs.Laws.SameCircuit.{equal_is_same}
use Rattle.step.specs.Step.{step}
use Rattle.game.specs.Alike.{Alike}
use Rattle.game.specs.Attack.{attack}
use Rattle.game.specs.CircuitGame.{circuit_game, is_realizable}
use Rattle.game.specs.Rank.{rank, in_region}
use Rattle.game.specs.Reply.{reply}

pub equal_is_alike : (c d : Circuit) → c ≡ d → Alike c d
equal_is_alike c d is =
    record {
      same = equal_is_same c d is;
      steps = ap step is;
      verdict = ap is_realizable is;
      region = ap (λ b. in_region (circuit_game b)) is;
      replies = ap (λ b. reply (circuit_game b)) is;
      ranks = ap (λ b. rank (circuit_game b)) is;
      attacks = ap (λ b. attack (circuit_game b)) is;
    }
