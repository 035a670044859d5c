-- `checker::replies::ReplyTables::check` meets its contract: 13, 14 and 15 in turn. Assumes nothing.
use Rattle.std.proofs.Common.{◌≡◌, ◌∙◌, ap, sym, ℕ}
use Rattle.circuit.specs.Answer.{outcome_of}
use Rattle.net.specs.Net.{net_latches, net_readings, net_controls}
use Rattle.records.specs.Kinds.{reply_kind_number}
use Rattle.records.specs.RegionBits.{holds_state}
use Rattle.checker.specs.Rules.{badly_sized}
use Rattle.checker.proofs.Laws.Answer.{refused_at_zero}
use Rattle.checker.proofs.Laws.Judged.{replies_badly_sized, replies_badly_reset, replies_broken, replies_pass}
use Rattle.checker.proofs.replies.ReplyTables.check.Goals as goal
use Rattle.checker.proofs.replies.ReplyTables.check.Goals.{After-badly_sized, After-holds_state}

-- both tests, by the net's counts
sized : (c : goal.After-badly_sized) → let t = c.args.self.now in c.badly_sized.result
    ≡ badly_sized t.region.now (reply_kind_number t.kind) t.table.now (net_latches t.net.numbers.now) (net_readings t.net.numbers.now)
    (net_controls t.net.numbers.now)
sized c =
    let t = c.args.self.now in
    c.badly_sized.ensures
    ∙ λ i. badly_sized t.region.now (reply_kind_number t.kind) t.table.now (t.net.latches i) (t.net.readings i) (t.net.controls i)

held : (c : goal.After-holds_state) → c.holds_state.result ≡ holds_state c.args.self.now.region.now (net_latches c.args.self.now.net.numbers.now) 0
held c = let t = c.args.self.now in c.holds_state.ensures ∙ ap (λ (n : ℕ). holds_state t.region.now n 0) t.net.latches

pub returns-then-badly_sized : goal.returns-then-badly_sized
returns-then-badly_sized c = λ d is circuit.
    let t = c.args.self.now in
    refused_at_zero _ _ c.refused.ensures
    ∙ replies_badly_sized t.net.numbers.now t.region.now _ t.table.now
    (sym (sized (goal.at.returns-then-badly_sized c).After-badly_sized) ∙ c.if-badly_sized.true) d is circuit

pub returns-then-not-holds_state : goal.returns-then-not-holds_state
returns-then-not-holds_state c = λ d is circuit.
    let t = c.args.self.now in
    refused_at_zero _ _ c.refused-then-not-holds_state.ensures
    ∙ replies_badly_reset t.net.numbers.now t.region.now _ t.table.now
    (sym (sized (goal.at.returns-then-not-holds_state c).After-badly_sized) ∙ c.if-badly_sized.false)
    (sym (held (goal.at.returns-then-not-holds_state c).After-holds_state) ∙ c.if-not-holds_state.true) d is circuit

pub returns-in-Some : goal.returns-in-Some
unfolding outcome_of
returns-in-Some c = λ d is circuit.
    let t = c.args.self.now in
    replies_broken t.net.numbers.now t.region.now _ t.table.now
    (sym (sized (goal.at.returns-in-Some c).After-badly_sized) ∙ c.if-badly_sized.false)
    (sym (held (goal.at.returns-in-Some c).After-holds_state) ∙ c.if-not-holds_state.false) c.in-Some.place c.in-Some.ensures d is circuit

pub returns-in-None : goal.returns-in-None
unfolding outcome_of
returns-in-None c = λ d is circuit.
    let t = c.args.self.now in
    replies_pass t.net.numbers.now t.region.now _ t.table.now
    (sym (sized (goal.at.returns-in-None c).After-badly_sized) ∙ c.if-badly_sized.false)
    (sym (held (goal.at.returns-in-None c).After-holds_state) ∙ c.if-not-holds_state.false) c.in-None.ensures d is circuit
