-- What `put_nexts` keeps from turn to turn: what is left to put, over the numbers so far, gives the whole.
use Rattle.std.proofs.Common.{◌≡◌, ◌+◌, length, map, drop}
use Rattle.std.proofs.lemmas.List.Edits.{sets}
use Rattle.circuit.specs.Circuit.{Latch}
use Rattle.circuit.specs.Stored.{meant}
use Rattle.net.specs.Inner.NamesIn.{names_in}
use Rattle.net.specs.Made.{most}
use Rattle.net.specs.NetOf.{net_literal}
use Rattle.net.proofs.numbers.put_nexts.Given as goal

abbrev pub invariant-loop-i : goal.invariant-loop-i
invariant-loop-i l =
    let nexts = map (λ (n : Latch). net_literal (names_in l.names.given) n.next) in record {
      long : length l.numbers ≡ most;
      put : sets l.initial.numbers 4 (nexts (meant l.c).latches) ≡ sets l.numbers (4 + l.i) (nexts (drop l.i (meant l.c).latches));
    }
