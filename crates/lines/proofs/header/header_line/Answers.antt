-- `lines::header::header_line` meets its contract: the word, then five numbers. Assumes nothing.
use mathlib.Core.Path.{sym, subst, ◌∙◌}
use Rattle.fields.proofs.Laws.Compared.{starts_pointwise}
use Rattle.lines.specs.Inner.Headed.{HeadedAs}
use Rattle.lines.proofs.Laws.HeaderLine.{header_is, header_none, header_malformed, header_other-count}
use Rattle.text.specs.Header.{word}
use Rattle.lines.proofs.header.header_line.Goals as goal

pub returns-then-not-starts_with : goal.returns-then-not-starts_with
returns-then-not-starts_with c =
    let line = c.args.line.now in
    header_none line (starts_pointwise word line ∙ sym c.starts_with.ensures.value ∙ c.if-not-starts_with.true)

pub returns-in_err-row : goal.returns-in_err-row
returns-in_err-row c =
    let line = c.args.line.now in
    subst (HeadedAs line) (sym c.from_residual.ensures)
    (header_malformed line (starts_pointwise word line ∙ sym c.starts_with.ensures.value ∙ c.if-not-starts_with.false) c.in_err-row.ensures)

pub returns-then-row-ne5 : goal.returns-then-row-ne5
returns-then-row-ne5 c =
    let line = c.args.line.now in
    let r = c.in_ok-row.row in
    header_other-count line (starts_pointwise word line ∙ sym c.starts_with.ensures.value ∙ c.if-not-starts_with.false) r.count r.numbers c.in_ok-row.ensures
    c.if-row-ne5.true

pub returns : goal.returns
returns c =
    let line = c.args.line.now in
    let r = c.in_ok-row.row in
    header_is line (starts_pointwise word line ∙ sym c.starts_with.ensures.value ∙ c.if-not-starts_with.false) r.count r.numbers c.in_ok-row.ensures
    c.if-row-ne5.false
