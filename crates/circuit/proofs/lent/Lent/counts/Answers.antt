-- `Lent::counts` meets its contract: L, U and C of the circuit that is lent.
use mathlib.Core.Path.{◌∙◌, sym}
use Rattle.circuit.specs.Circuit.{latch_count, uncontrollable_count, controllable_count}
use Rattle.circuit.specs.Counts.{counts_of}
use Rattle.circuit.specs.Stored.{lent, on_lines, meant_lent}
use Rattle.circuit.proofs.Laws.Solvable.{lent_latches}
use Rattle.circuit.proofs.lent.Lent.counts.Goals as goal

pub returns : goal.returns
unfolding counts_of meant_lent on_lines latch_count uncontrollable_count controllable_count lent
returns c =
    let l = c.args.self in
    let latches = lent_latches l.largest l.input.now l.controllable.now l.latch.now l.next.now l.output l.gate.now l.left.now l.right.now in
    λ x.
    record {
      latches = (c.latches_of.ensures ∙ sym latches) x;
      readings = c.uncontrollable_count.ensures x;
      controls = c.controllable_count.ensures x;
    }
