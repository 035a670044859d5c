-- `checker::attacks::AttackTable::is_answered` meets its contract: the blocks of the controls' moves are tried in turn. Assumes nothing.
use Rattle.std.proofs.Common.{◌≡◌, ◌∙◌, sym, ap, refl, arith, ◌+◌, ◌*◌, ◌-◌, ℕ, min, Bool}
use Rattle.below.specs.Least.{any}
use Rattle.blocks.specs.Lane.{width, lits_in}
use Rattle.game.specs.NetGame.{keeps_by}
use Rattle.game.specs.Rank.{not_ranked}
use Rattle.records.specs.AttackTable.{stored_rank}
use Rattle.net.specs.Net.{net_latches}
use Rattle.checker.proofs.Laws.Answered.{tried_start, tried_next, tried_kept, tried_end}
use Rattle.checker.proofs.attacks.AttackTable.is_answered.Goals as goal
use Rattle.checker.proofs.attacks.AttackTable.is_answered.Goals.{After-some_keeps}

pub loop-block-init : goal.loop-block-init
loop-block-init c = tried_start _ _ _ _ _ _ (omega arith)

abbrev set : goal.After-some_keeps → ℕ → Bool
set c = not_ranked (stored_rank c.args.self.now.table.now (net_latches c.args.self.now.net.numbers.now)) c.args.bound

-- whether a lane of the block keeps out
some : (c : goal.After-some_keeps) →
    c.some_keeps.result ≡ any (λ i. keeps_by (set c) c.args.self.now.net.numbers.now (lits_in c.evaluate.new.words (c.saturating_sub-from.result + i)))
    (min (c.move_of-first.result + c.controls.result - 64 * c.loop-block.block) width - c.saturating_sub-from.result)
some c =
    c.some_keeps.ensures
    ∙ ap (λ (n : ℕ). any (λ i. keeps_by (not_ranked (stored_rank c.args.self.now.table.now n) c.args.bound) c.args.self.now.net.numbers.now
    (lits_in c.evaluate.new.words (c.saturating_sub-from.result + i)))
    (min (c.move_of-first.result + c.controls.result - 64 * c.loop-block.block) width - c.saturating_sub-from.result)) c.args.self.now.net.latches

pub returns-then-some_keeps : goal.returns-then-some_keeps
returns-then-some_keeps c =
    let n = c.args.self.now.net in
    tried_kept n.numbers.now (set (goal.at.returns-then-some_keeps c).After-some_keeps) c.args.state c.args.reading c.move_of-first.result
    (c.move_of-first.result + c.controls.result) c.move_of-first.ensures.value (omega (arith, c.controls.ensures.number)) n.order c.loop-block.block
    c.saturating_sub-from.result _ c.saturating_sub-from.ensures refl c.evaluate.new.words c.loop-block.words c.evaluate.ensures c.loop-block.invariant
    (sym (some (goal.at.returns-then-some_keeps c).After-some_keeps) ∙ c.if-some_keeps.true)

pub loop-block-preserved : goal.loop-block-preserved
loop-block-preserved c =
    let n = c.args.self.now.net in
    tried_next n.numbers.now (set (goal.at.loop-block-preserved c).After-some_keeps) c.args.state c.args.reading c.move_of-first.result
    (c.move_of-first.result + c.controls.result) c.move_of-first.ensures.value (omega (arith, c.controls.ensures.number)) n.order c.loop-block.block
    c.saturating_sub-from.result _ c.saturating_sub-from.ensures refl c.evaluate.new.words c.loop-block.words c.evaluate.ensures c.loop-block.invariant
    (sym (some (goal.at.loop-block-preserved c).After-some_keeps) ∙ c.if-some_keeps.false)

pub returns : goal.returns
returns c =
    let n = c.args.self.now.net in
    tried_end n.numbers.now _ c.args.state c.args.reading c.move_of-first.result (c.move_of-first.result + c.controls.result)
    c.move_of-first.ensures.value (omega (arith, c.controls.ensures.number)) c.loop-block.block c.loop-block.invariant
    (omega (arith, c.div_ceil-block-end.ensures))
