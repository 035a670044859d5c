-- What the writers of a certificate go by: counts within the limits, and a circuit's counts and the solution of its game. Assumes nothing.
use Rattle.std.specs.Prelude.{◌≤◌, ◌≡◌}
use Rattle.circuit.specs.Circuit.{Circuit}
use Rattle.circuit.specs.Limits.{base}
use Rattle.game.specs.CircuitGame.{circuit_game}
use Rattle.circuit.specs.Counts.{counts_of}
use Rattle.solver.specs.Solution.{solution_of}
use Rattle.solver.specs.declared.Solution.{Solution}
use Rattle.circuit.specs.declared.counts.Counts.{Counts}

pub record Few (n : Counts) : Type 0 where
  pub latches : n.latches ≤ base.latches
  pub readings : n.readings ≤ base.uncontrollable
  pub controls : n.controls ≤ base.controllable

pub record Solved (c : Circuit) (n : Counts) (s : Solution) : Type 0 where
  pub counts_are : n ≡ counts_of c
  pub solution_is : s ≡ solution_of (circuit_game c)
