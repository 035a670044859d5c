-- What `put_gates` keeps from turn to turn: what is left to put and to name, over the numbers and names so far, gives the whole.
use Rattle.std.proofs.Common.{◌≡◌, ◌+◌, ◌*◌, length, drop}
use Rattle.std.proofs.lemmas.List.Edits.{sets}
use Rattle.circuit.specs.Stored.{meant}
use Rattle.net.specs.Inner.NamesIn.{names_in}
use Rattle.net.specs.Made.{most}
use Rattle.net.specs.NetOf.{name_gates, operands_of}
use Rattle.net.proofs.numbers.put_gates.Given as goal

abbrev pub invariant-loop-i : goal.invariant-loop-i
invariant-loop-i l =
    let gates = (meant l.c).gates in record {
      long : length l.numbers ≡ most;
      put : sets l.initial.numbers l.start (operands_of gates l.first (names_in l.initial.names.given))
          ≡ sets l.numbers (l.start + 2 * l.i) (operands_of (drop l.i gates) (l.first + l.i) (names_in l.names.given));
      named : name_gates gates l.first (names_in l.initial.names.given)
          ≡ name_gates (drop l.i gates) (l.first + l.i) (names_in l.names.given);
    }
