-- `fields::row::field_at` meets its contract: a number, and what stands behind it. Assumes nothing.
use mathlib.Core.Path.{sym, subst, ◌∙◌}
use native.Mathlib.Omega.{arith}
use Rattle.fields.specs.Inner.RowAt.{FieldAt}
use Rattle.fields.proofs.Laws.PositionFields.{field_bad, field_more, field-ended, field-other}
use Rattle.fields.proofs.row.field_at.Goals as goal

pub returns-in_err-value : goal.returns-in_err-value
returns-in_err-value c =
    subst (FieldAt c.args.s.now c.args.at) (sym c.from_residual.ensures) (field_bad c.args.s.now c.args.at c.in_err-value.ensures)

pub returns-in-32 : goal.returns-in-32
returns-in-32 c =
    let n = c.in_ok-value.field-0 in
    field_more c.args.s.now c.args.at n.value n.behind c.in_ok-value.ensures.0 (sym c.get_or.ensures ∙ c.in-32.is)

pub returns-in-10 : goal.returns-in-10
returns-in-10 c =
    let n = c.in_ok-value.field-0 in
    subst (FieldAt c.args.s.now c.args.at) (sym c.then_some.ensures)
    (field-ended c.args.s.now c.args.at n.value n.behind c.in_ok-value.ensures.0 (sym c.get_or.ensures ∙ c.in-10.is))

pub returns-in_default : goal.returns-in_default
returns-in_default c =
    let n = c.in_ok-value.field-0 in
    field-other c.args.s.now c.args.at n.value n.behind c.in_ok-value.ensures.0 (λ e. omega arith) (λ e. omega arith)
