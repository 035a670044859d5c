-- `put::close_gap` meets its contract: what lies behind the gap is moved, and the end filled. Assumes nothing.
use native.Mathlib.Omega.{arith}
use Rattle.std.proofs.Common.{◌≡◌, ℕ, replicate, rules, ap, ◌∙◌}
use Rattle.std.proofs.lemmas.Grind.{common_steps}
use Rattle.put.proofs.Laws.Gapped.{gap_closed}
use Rattle.put.proofs.close_gap.Goals as goal

pub returns : goal.returns
returns c =
    let b = c.args.bytes.now in
    let n = c.min-n.result in
    let filled : c.fill.new.self ≡ replicate n 0 =
    c.fill.ensures.after (λ y e. search rules) ∙ ap (λ (m : ℕ). replicate m 0) (grind (arith, common_steps))
    in
    gap_closed b c.args.at c.args.n c.min-at.result n c.min-at.ensures c.min-n.ensures c.copy_within.new.self c.fill.new.self _
    c.copy_within.ensures.after filled (omega (arith, c.copy_within.ensures.len))
