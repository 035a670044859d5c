-- `checker::replies::ReplyTables::broken_place` meets its contract: the places are tried in turn. Assumes nothing.
use Rattle.std.proofs.Common.{◌+◌, ◌*◌, sym}
use Rattle.checker.proofs.Laws.Faults.{fault_found, fault_next, fault_none}
use Rattle.checker.proofs.replies.ReplyTables.broken_place.Goals as goal

pub returns-then-reply_broken : goal.returns-then-reply_broken
returns-then-reply_broken c =
    let t = c.args.self.now in
    fault_found t.net.numbers.now t.region.now _ t.table.now c.loop-state.state c.loop-reading.reading c.states-state-end.result c.readings-readings.result
    c.states-state-end.ensures.number c.readings-readings.ensures.number c.loop-reading-test.true _
    (λ i. c.from.ensures i * c.readings-readings.result + c.from-then-reply_broken.ensures i) c.loop-state-test.true c.loop-reading.invariant.1
    (sym c.if-reply_broken.ensures.broken)

pub loop-reading-preserved : goal.loop-reading-preserved
loop-reading-preserved c =
    let t = c.args.self.now in (
      c.reply_broken.ensures.same_net,
      fault_next t.net.numbers.now t.region.now _ t.table.now c.loop-state.state c.loop-reading.reading c.states-state-end.result c.readings-readings.result
          c.states-state-end.ensures.number c.readings-readings.ensures.number c.loop-reading-test.true c.loop-reading.invariant.1
          (sym c.if-reply_broken.ensures.broken),
    )

pub returns : goal.returns
returns c =
    let t = c.args.self.now in
    fault_none t.net.numbers.now t.region.now _ t.table.now c.loop-state.state 0 c.states-state-end.result c.readings-readings.result
    c.states-state-end.ensures.number c.readings-readings.ensures.number c.loop-state-test.false c.loop-state.invariant.1
