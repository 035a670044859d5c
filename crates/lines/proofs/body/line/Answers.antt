-- `lines::body::line` meets its contract: the line's numbers, as many as its kind asks for, and what they call for. Assumes nothing.
use native.Mathlib.Omega.{arith}
use mathlib.Core.Path.{sym, ◌∙◌, ap, subst}
use lib.ListN.{get_or}
use Rattle.circuit.specs.declared.numbers.Fault.TheVariants.{BadLine}
use Rattle.fields.specs.Inner.RowAt.{IsRow, RowAt}
use Rattle.lines.specs.Inner.Kinds.{fault_of, rule_of}
use Rattle.lines.specs.Inner.LinedAs.{LinedAs}
use Rattle.lines.specs.declared.kind.Form.{Form}
use Rattle.lines.proofs.Laws.FoundLine.{kind_malformed, kind_other-count, kind_told}
use Rattle.lines.proofs.Laws.Missing.{missing}
use Rattle.lines.proofs.body.line.Goals.{In_ok-row, then-row-form-via-then-row-form, then-row-form-via-else-row-form+then-form-row}
use Rattle.lines.proofs.body.line.Goals as goal

pub returns-in_err-row : goal.returns-in_err-row
returns-in_err-row c =
    let a = c.args in
    let none = c.in_err-row.ensures.ok_part in
    subst (LinedAs a.m (rule_of a.kind a.m) a.defined.now a.bytes.now)
    (sym (missing c.row_at.result BadLine c.in_err-row.field-0.0 c.from_residual.result c.in_err-row.ensures.value none c.from_residual.ensures.1))
    (kind_malformed a.kind a.m a.defined.now a.bytes.now (subst (RowAt a.bytes.now 0) none c.row_at.ensures))

row : (c : In_ok-row) → IsRow c.args.bytes.now 0 c.in_ok-row.row.count c.in_ok-row.row.numbers
row c = subst (RowAt c.args.bytes.now 0) c.in_ok-row.ensures.ok_part c.row_at.ensures

pub returns-then-row-form : goal.returns-then-row-form
returns-then-row-form c =
    let a = c.args in
    let r = c.in_ok-row.row in
    kind_other-count a.kind a.m a.defined.now a.bytes.now r.count r.numbers (row (goal.at.returns-then-row-form c).In_ok-row)
    (λ low high. elim c.then-row-form.branch [
      | then-row-form-via-then-row-form w ↦ omega (arith, w.if-row-form.true, ap (λ (f : Form). f.fewest) c.form_of-form.ensures, low)
      | then-row-form-via-else-row-form+then-form-row w ↦ omega (arith, w.if-form-row.true, ap (λ (f : Form). f.most) c.form_of-form.ensures, high)
    ])

pub returns : goal.returns
returns c =
    let a = c.args in
    let r = c.in_ok-row.row in
    let three = λ (f : Form). fault_of f a.m a.defined.now (get_or r.numbers 0 0) (get_or r.numbers 1 0) (get_or r.numbers 2 0) in
    kind_told a.kind a.m a.defined.now a.bytes.now r.count r.numbers (row (goal.at.returns c).In_ok-row)
    (omega (arith, c.if-row-form.false, ap (λ (f : Form). f.fewest) c.form_of-form.ensures))
    (omega (arith, c.if-form-row.false, ap (λ (f : Form). f.most) c.form_of-form.ensures)) c.fault_of.result c.map_or.result
    (c.fault_of.ensures ∙ ap three c.form_of-form.ensures) c.map_or.ensures
