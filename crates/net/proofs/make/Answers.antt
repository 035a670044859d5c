-- `make` meets its contract: names and numbers, part by part, add up to the net.
use Rattle.std.proofs.Common.{◌≡◌, ◌+◌, ◌*◌, ◌∙◌, length, sym, ap, rules, arith}
use Rattle.circuit.specs.Circuit.{Circuit, latch_count}
use Rattle.circuit.specs.Counts.{counts_of}
use Rattle.circuit.specs.Stored.{meant}
use Rattle.net.specs.Inner.NamesIn.{names_in}
use Rattle.net.proofs.Laws.Made.{net_made}
use Rattle.net.proofs.Laws.Room.{Room, meant_room, gates_long}
use Rattle.net.proofs.make.Goals as goal
use Rattle.net.proofs.make.Goals.{After-counts}

room : (c : After-counts) → Room (meant c.args.c)
room c = meant_room c.args.c (search rules) (search rules)

latches_are : (c : After-counts) → c.counts.result.latches ≡ latch_count (meant c.args.c)
unfolding counts_of
latches_are c = rw (c.counts.ensures, c.lent-circuit.ensures)

gates_are : (c : After-counts) → length c.lent-circuit.result.gate.now ≡ length (meant c.args.c).gates
gates_are c = sym (gates_long c.lent-circuit.result) ∙ ap (λ (d : Circuit). length d.gates) c.lent-circuit.ensures

pub overflow_add-result : goal.overflow_add-result
unfolding latch_count
overflow_add-result c = let k = (goal.at.overflow_add-result c).After-counts in omega (arith, latches_are k, (room k).latches)

pub overflow_add-result-2 : goal.overflow_add-result-2
unfolding latch_count
overflow_add-result-2 c =
    let k = (goal.at.overflow_add-result-2 c).After-counts in
    omega (arith, latches_are k, gates_are k, (room k).latches, (room k).gates)

pub returns : goal.returns
returns c =
    let k = (goal.at.returns c).After-counts in
    let long : 4 + c.counts.result.latches + 2 * length c.lent-circuit.result.gate.now ≡ 4 + latch_count (meant c.args.c) + 2 * length (meant c.args.c).gates =
    omega (arith, latches_are k, gates_are k) in
    net_made (meant c.args.c)
    (names_in c.none-names.result.given) (names_in c.name_inputs.new.self.given) (names_in c.name_latches.new.self.given)
    (names_in c.put_gates.new.names.given)
    c.filled-numbers.result c.put_gates.new.numbers c.put_nexts.new.numbers c.put_head.new.numbers _
    c.none-names.ensures c.name_inputs.ensures c.name_latches.ensures c.filled-numbers.ensures
    c.put_gates.ensures.numbers_after c.put_gates.ensures.names_after c.put_nexts.ensures c.put_head.ensures long (room k)
