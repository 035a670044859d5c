-- A net's L, U and C are its circuit's. Assumes nothing.
use Prim.Native.Nat.{ℕ}
use mathlib.Core.List.{List}
use mathlib.Core.Path.{◌≡◌, ap}
use Rattle.circuit.specs.Circuit.{Circuit, latch_count, uncontrollable_count, controllable_count}
use Rattle.net.specs.Net.{net_latches, net_readings, net_controls}
use Rattle.net.specs.NetOf.{net_of}

module _ (c : Circuit) (net : List ℕ) (is : net ≡ net_of c) where
  pub net_latches_are : net_latches net ≡ latch_count c
  unfolding net_latches net_of
  net_latches_are = ap net_latches is

  pub net_readings_are : net_readings net ≡ uncontrollable_count c
  unfolding net_readings net_of
  net_readings_are = ap net_readings is

  pub net_controls_are : net_controls net ≡ controllable_count c
  unfolding net_controls net_of
  net_controls_are = ap net_controls is
