-- What `Names::name_inputs` keeps from turn to turn: what is left to name, over the names so far, gives the whole; the next names are no
-- higher than the inputs passed allow.
use Rattle.std.proofs.Common.{◌≡◌, ◌+◌, ◌≤◌, drop}
use Rattle.circuit.specs.Circuit.{controllable_count}
use Rattle.circuit.specs.Stored.{meant}
use Rattle.net.specs.Inner.NamesIn.{names_in}
use Rattle.net.specs.NetOf.{name_inputs}
use Rattle.net.proofs.names.Names.name_inputs.Given as goal

abbrev pub invariant-loop-i : goal.invariant-loop-i
invariant-loop-i l =
    let c = meant l.c in record {
      left : name_inputs c.inputs 1 (1 + controllable_count c) (names_in l.initial.self.given)
          ≡ name_inputs (drop l.i c.inputs) l.control l.reading (names_in l.self.given);
      control : l.control ≤ 1 + l.i;
      reading : l.reading ≤ 1 + controllable_count c + l.i;
    }
