-- `checker::replies::ReplyTables::reply_broken` meets its contract: the lane of the reply's move decides. Assumes nothing.
use Rattle.std.proofs.Common.{◌∙◌, sym, ap, not, arith}
use Rattle.records.specs.RegionBits.{holds_state}
use Rattle.checker.proofs.Laws.Faults.{lane_fault}
use Rattle.checker.proofs.replies.ReplyTables.reply_broken.Goals as goal

pub returns-clause-broken : goal.returns-clause-broken
returns-clause-broken c =
    let t = c.args.self.now in
    let inside = sym (c.if-not-holds_state.ensures ∙ ap (holds_state t.region.now t.net.counts.latches) c.from.ensures) in
    ap not c.lane_keeps_region.ensures
    ∙ lane_fault t c.args.state c.args.reading inside c.stored_reply-reply.result (cc)
    (omega (arith, c.if-from-controls.false, c.controls.ensures.number, c.from-4.ensures)) c.turn_to.new.self (c.turn_to.ensures.net ∙ c.requires)
    c.move_of-m.result c.move_of-m.ensures.value c.turn_to.ensures.block
