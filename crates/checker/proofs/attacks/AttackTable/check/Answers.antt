-- `checker::attacks::AttackTable::check` meets its contract: 13, 14 and 15 in turn. Assumes nothing.
use Rattle.std.proofs.Common.{◌≡◌, ◌∙◌, ◌^◌, ◌*◌, ap, sym, arith, ℕ, length}
use Rattle.circuit.specs.Answer.{outcome_of}
use Rattle.circuit.specs.Outcome.{refused}
use Rattle.net.specs.Net.{net_latches}
use Rattle.records.specs.AttackTable.{stored_rank}
use Rattle.checker.specs.Numbers.{broken_step}
use Rattle.checker.proofs.Laws.Answer.{refused_at_zero}
use Rattle.checker.proofs.Laws.Judged.{attacks_badly_sized, attacks_badly_reset, attacks_broken, attacks_pass}
use Rattle.checker.proofs.attacks.AttackTable.check.Goals as goal
use Rattle.checker.proofs.attacks.AttackTable.check.Goals.{After-stored_rank}

pub returns-then-self-states : goal.returns-then-self-states
returns-then-self-states c = λ d is circuit.
    let t = c.args.self.now in
    refused_at_zero _ _ c.refused.ensures
    ∙ attacks_badly_sized t.net.numbers.now t.table.now (λ e. c.if-self-states.true (omega (arith, e, c.states.ensures.number))) d is circuit

-- the table's length, and the rank of state 0
long : (c : goal.After-stored_rank) → length c.args.self.now.table.now ≡ 3 * 2 ^ net_latches c.args.self.now.net.numbers.now
long c = omega (arith, c.if-self-states.false, c.states.ensures.number)

ranked : (c : goal.After-stored_rank) → c.stored_rank.result ≡ stored_rank c.args.self.now.table.now (net_latches c.args.self.now.net.numbers.now) 0
ranked c = c.stored_rank.ensures ∙ ap (λ (n : ℕ). stored_rank c.args.self.now.table.now n 0) c.args.self.now.net.latches

pub returns-then-stored_rank-eq0 : goal.returns-then-stored_rank-eq0
returns-then-stored_rank-eq0 c = λ d is circuit.
    let t = c.args.self.now in
    let w = (goal.at.returns-then-stored_rank-eq0 c).After-stored_rank in
    refused_at_zero _ _ c.refused-then-stored_rank-eq0.ensures
    ∙ attacks_badly_reset t.net.numbers.now t.table.now (long w) (sym (ranked w) ∙ c.if-stored_rank-eq0.true) d is circuit

pub returns-in-Some : goal.returns-in-Some
unfolding outcome_of
returns-in-Some c = λ d is circuit.
    let t = c.args.self.now in
    let w = (goal.at.returns-in-Some c).After-stored_rank in
    ap (refused broken_step) c.from.ensures
    ∙ attacks_broken t.net.numbers.now t.table.now (long w) (λ e. c.if-stored_rank-eq0.false (ranked w ∙ e)) c.in-Some.place c.in-Some.ensures d is circuit

pub returns-in-None : goal.returns-in-None
unfolding outcome_of
returns-in-None c = λ d is circuit.
    let t = c.args.self.now in
    let w = (goal.at.returns-in-None c).After-stored_rank in
    attacks_pass t.net.numbers.now t.table.now (long w) (λ e. c.if-stored_rank-eq0.false (ranked w ∙ e)) c.in-None.ensures d is circuit
