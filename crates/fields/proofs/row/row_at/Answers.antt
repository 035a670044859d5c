-- `fields::row::row_at` meets its contract: number by number. Assumes nothing.
use mathlib.Core.Path.{sym, subst}
use Rattle.fields.specs.Inner.RowAt.{NextAt, RowAt}
use Rattle.fields.proofs.Laws.RowLoop.{reading_starts, reading_fails, reading_ends, reading_goes_on, reading_too_many}
use Rattle.fields.proofs.row.row_at.Goals as goal

pub loop-k-init : goal.loop-k-init
loop-k-init c = reading_starts c.args.s.now c.args.at

pub returns-in_err-field : goal.returns-in_err-field
returns-in_err-field c =
    let a = c.args in
    let l = c.loop-k in
    subst (RowAt a.s.now a.at) (sym c.from_residual.ensures) (reading_fails a.s.now a.at l.here l.k l.numbers l.invariant c.in_err-field.ensures)

pub returns-in-None : goal.returns-in-None
returns-in-None c =
    let a = c.args in
    let l = c.loop-k in
    let f = c.in_ok-field.field in
    reading_ends a.s.now a.at l.here l.k l.numbers l.invariant c.loop-k-test.true f.value
    (subst (NextAt a.s.now l.here f.value) c.in-None.is c.in_ok-field.ensures)

pub loop-k-preserved : goal.loop-k-preserved
loop-k-preserved c =
    let a = c.args in
    let l = c.loop-k in
    let f = c.in_ok-field.field in
    reading_goes_on a.s.now a.at l.here l.k l.numbers l.invariant c.loop-k-test.true f.value c.in-Some.next
    (subst (NextAt a.s.now l.here f.value) c.in-Some.is c.in_ok-field.ensures)

pub returns : goal.returns
returns c =
    let l = c.loop-k in
    reading_too_many c.args.s.now c.args.at l.here l.k l.numbers l.invariant c.loop-k-test.false
