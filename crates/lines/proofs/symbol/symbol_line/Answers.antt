-- `lines::symbol::symbol_line` meets its contract: the line `c`, or a letter, a number and what follows. Assumes nothing.
use borrow.Author.Tests.{eqb-true}
use mathlib.Core.Path.{refl, sym, ◌∙◌, subst}
use native.Mathlib.Omega.{arith}
use Rattle.circuit.specs.declared.numbers.Fault.TheVariants.{BadSymbol}
use Rattle.fields.specs.Inner.NumberAt.{NumberAt}
use Rattle.lines.specs.Inner.Headed.{said}
use Rattle.lines.specs.Inner.SymboledAs.{SymbolAs}
use Rattle.lines.proofs.Laws.Missing.{missing}
use Rattle.lines.proofs.Laws.SymbolHere.{more_than_none, symbol_empty, symbol_unnumbered, symbol_told}
use Rattle.std.specs.Prelude.{Some}
use Rattle.lines.proofs.symbol.symbol_line.Goals as goal
use Rattle.lines.proofs.symbol.symbol_line.Goals.{In_ok-number}

pub returns-then-is_empty : goal.returns-then-is_empty
returns-then-is_empty c =
    let a = c.args in
    let empty = eqb-true _ 0 (sym c.is_empty.ensures ∙ c.if-is_empty.true) in
    (sym c.is_comment.ensures ∙ c.if-is_comment.false, refl, λ seen says. symbol_empty (said a.h) seen a.line.now empty)

pub returns-in_err-number : goal.returns-in_err-number
returns-in_err-number c =
    let a = c.args in
    let none = c.in_err-number.ensures.ok_part in
    let bad = subst (NumberAt a.line.now 1) none c.number_at.ensures in
    subst (SymbolAs (said a.h) a.named.now a.line.now)
    (sym (missing c.number_at.result BadSymbol c.in_err-number.field-0.0 c.from_residual.result c.in_err-number.ensures.value none c.from_residual.ensures.1)) (
      sym c.is_comment.ensures ∙ c.if-is_comment.false,
      refl,
      λ seen says. symbol_unnumbered (said a.h) seen a.line.now (more_than_none _ (sym c.is_empty.ensures ∙ c.if-is_empty.false)) bad,
    )

number : (c : In_ok-number) → NumberAt c.args.line.now 1 (Some c.in_ok-number.number)
number c = subst (NumberAt c.args.line.now 1) c.in_ok-number.ensures.ok_part c.number_at.ensures

pub symbol_at-requires : goal.symbol_at-requires
symbol_at-requires c = omega (arith, c.well_formed, (number (goal.at.symbol_at-requires c).In_ok-number).1)

pub returns : goal.returns
returns c =
    let a = c.args in
    let n = c.in_ok-number.number in
    symbol_told (said a.h) a.named.now a.line.now (sym c.is_comment.ensures ∙ c.if-is_comment.false)
    (more_than_none _ (sym c.is_empty.ensures ∙ c.if-is_empty.false)) n.value n.behind (number (goal.at.returns c).In_ok-number).0
    c.symbol_at.result c.symbol_at.ensures c.map.result c.map.ensures.cases c.ok_or-2.result c.ok_or-2.ensures.value
