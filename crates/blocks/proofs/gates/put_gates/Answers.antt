-- `put_gates` meets its contract: each turn puts one gate.
use Rattle.std.proofs.Common.{◌∙◌, get_or, sym}
use Rattle.blocks.specs.Lane.{lits_in}
use Rattle.blocks.proofs.Laws.Lane.{lane_and}
use Rattle.blocks.proofs.Laws.Putting.{gates_next, gates_end}
use Rattle.blocks.proofs.gates.put_gates.Goals as goal

pub loop-i-preserved : goal.loop-i-preserved
unfolding lits_in
loop-i-preserved c = let a = c.args in
    let l = c.loop-i in
    let x = get_or l.words c.place.result 0 in
    let y = get_or l.words c.place-in-loop-i.result 0 in
    λ j h.
    l.invariant j h
    ∙ gates_next a.operands.now a.first l.i (lits_in l.words j) (rw (← c.min-n.ensures) c.loop-i-test.true)
    ∙ rw (c.put_both.ensures j h, lane_and x y j, c.place.ensures, c.place-in-loop-i.ensures)

pub returns : goal.returns
returns c = let a = c.args in
    let l = c.loop-i in
    λ j h. sym (l.invariant j h ∙ gates_end a.operands.now a.first l.i (lits_in l.words j) (rw (← c.min-n.ensures) c.loop-i-test.false))
