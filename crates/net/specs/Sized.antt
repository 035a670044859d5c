-- A net in order that has no more readings and controls than a circuit may have (01, the table of limits). Assumes nothing.
use Rattle.std.specs.Prelude.{ℕ, ◌≤◌, List}
use Rattle.circuit.specs.Limits.{base}
use Rattle.net.specs.InOrder.{InOrder}
use Rattle.net.specs.Net.{net_readings, net_controls}

pub record Sized (net : List ℕ) : Type 0 where
  pub order : InOrder net
  pub few_readings : net_readings net ≤ base.uncontrollable
  pub few_controls : net_controls net ≤ base.controllable
