-- The net of a circuit that fits is in order, and a value of the code always stands for one that fits. Assumes nothing.
use Prim.Native.Nat.{suc, ◌+◌, ◌≤◌}
use native.Mathlib.Omega.{arith}
use mathlib.Core.List.{map}
use mathlib.Core.Path.{refl}
use lib.ListN.{length, length-append, length-map}
use Rattle.circuit.specs.Circuit.{Circuit, Input, Latch, latch_count, uncontrollable_count, controllable_count}
use Rattle.circuit.specs.Limits.{base}
use Rattle.circuit.proofs.Laws.Inputs.{inputs_parted}
use Rattle.net.specs.InOrder.{InOrder, GatesInOrder}
use Rattle.net.specs.Net.{net_operands, net_latches, move_bits}
use Rattle.net.specs.NetOf.{net_literal, operands_of, first_names, all_names, gate_start, net_of}
pub use Rattle.net.proofs.Laws.Room.{Room}
use Rattle.net.proofs.Laws.Names.{literal_before, operands_in_order, nexts_before}
use Rattle.net.proofs.Laws.NetStep.{net_latches_lem, net_output_lem, net_move_bits, net_nexts_lem, net_operands_lem, first_below, all_below}

pub start_within : (c : Circuit) → Room c → gate_start c ≤ 1 + base.inputs + base.latches
unfolding gate_start latch_count uncontrollable_count controllable_count
start_within c room = omega (arith, inputs_parted (λ (i : Input). i.controllable) c.inputs, room.inputs, room.latches)

latches_fit : (c : Circuit) → Room c → latch_count c ≤ base.latches
unfolding latch_count
latches_fit c room = room.latches

net_long : (c : Circuit) → 4 + latch_count c ≤ length (net_of c)
unfolding net_of latch_count
net_long c =
    omega (
      arith,
      length-append (map (λ (l : Latch). net_literal (all_names c) l.next) c.latches) (operands_of c.gates (gate_start c) (first_names c)),
      length-map c.latches (λ (l : Latch). net_literal (all_names c) l.next),
    )

pub net_in_order : (c : Circuit) → Room c → InOrder (net_of c)
net_in_order c room =
    record {
      end = gate_start c + length c.gates;
      few = omega (arith, start_within c room, room.gates);
      gates = ordered;
      output = rw (net_output_lem c) (literal_before (gate_start c + length c.gates) c.output (all_names c) (all_below c));
      nexts = rw (net_nexts_lem c) (nexts_before (gate_start c + length c.gates) (all_names c) c.latches (all_below c));
      states = few_latches_lem;
      long = longer;
    }
  where
    ordered : GatesInOrder (net_operands (net_of c)) (suc (move_bits (net_of c))) (gate_start c + length c.gates)
    ordered = rw (net_operands_lem c, net_move_bits c) (operands_in_order c.gates (gate_start c) (gate_start c + length c.gates) (first_names c)
        (first_below c) refl)

    few_latches_lem : net_latches (net_of c) ≤ base.latches
    few_latches_lem = rw (net_latches_lem c) (latches_fit c room)

    longer : 4 + net_latches (net_of c) ≤ length (net_of c)
    longer = rw (net_latches_lem c) (net_long c)
