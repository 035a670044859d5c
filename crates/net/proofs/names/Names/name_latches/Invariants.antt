-- What `Names::name_latches` keeps from turn to turn: what is left to name, over the names so far, gives the whole.
use Rattle.std.proofs.Common.{◌≡◌, ◌+◌, drop}
use Rattle.circuit.specs.Circuit.{controllable_count, uncontrollable_count}
use Rattle.circuit.specs.Stored.{meant}
use Rattle.net.specs.Inner.NamesIn.{names_in}
use Rattle.net.specs.NetOf.{name_latches}
use Rattle.net.proofs.names.Names.name_latches.Given as goal

abbrev pub invariant-loop-i : goal.invariant-loop-i
invariant-loop-i l =
    let c = meant l.c in
    name_latches c.latches (1 + controllable_count c + uncontrollable_count c) (names_in l.initial.self.given)
    ≡ name_latches (drop l.i c.latches) (l.first + l.i) (names_in l.self.given)
