-- `fields::number::number_at` meets its contract: the digits that stand there, if they are a numeral. Assumes nothing.
use Prim.Native.Nat.{◌+◌}
use mathlib.Core.Path.{sym, ap, ◌∙◌}
use lib.ListN.{length, drop}
use native.Mathlib.Omega.{arith}
use Rattle.text.specs.Number.{is}
use Rattle.fields.proofs.Laws.Numerals.{digits_of, digits_within, number_is, number_bad}
use Rattle.fields.proofs.number.number_at.Goals as goal

pub value_of-requires : goal.value_of-requires
value_of-requires c =
    let d = c.digits_at-digits in
    digits_of c.args.s.now c.args.at d.result.now d.ensures (sym c.is_numeral.ensures ∙ c.if-is_numeral.true)

pub overflow_add-result : goal.overflow_add-result
overflow_add-result c =
    let d = c.digits_at-digits in
    omega (arith, digits_within c.args.s.now c.args.at d.result.now d.ensures (sym c.is_numeral.ensures ∙ c.if-is_numeral.true), c.well_formed)

pub returns-then-is_numeral : goal.returns-then-is_numeral
returns-then-is_numeral c =
    let a = c.args in
    let d = c.digits_at-digits in
    let v = c.value_of.ensures in
    let whole = sym c.is_numeral.ensures ∙ c.if-is_numeral.true in (
      number_is a.s.now a.at d.result.now d.ensures whole ∙ sym (ap (λ n. is n (drop (a.at + length d.result.now) a.s.now)) v.value),
      digits_within a.s.now a.at d.result.now d.ensures whole,
      v.small,
    )

pub returns : goal.returns
returns c =
    let d = c.digits_at-digits in
    number_bad c.args.s.now c.args.at d.result.now d.ensures (sym c.is_numeral.ensures ∙ c.if-is_numeral.false)
