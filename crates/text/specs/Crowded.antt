-- Number 9 (01, "The numbers": more than 5 uncontrollable or 8 controllable), as a statement. Assumes nothing.
use Rattle.std.specs.Prelude.{◌<◌}
use Rattle.circuit.specs.Circuit.{Circuit, uncontrollable_count, controllable_count}
use Rattle.circuit.specs.Limits.{Limits}

pub data Crowded (limits : Limits) (c : Circuit) : Type 0 where
  many_uncontrollable : limits.uncontrollable < uncontrollable_count c → Crowded limits c
  many_controllable : limits.controllable < controllable_count c → Crowded limits c
