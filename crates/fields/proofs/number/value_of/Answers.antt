-- `fields::number::value_of` meets its contract: digit by digit. Assumes nothing.
use native.Mathlib.Omega.{arith}
use Rattle.fields.proofs.Laws.Numerals.{said_start, said_more, said_all, all_small, said_small, digit-low, digit_high}
use Rattle.fields.proofs.number.value_of.Goals as goal

pub loop-digit-init : goal.loop-digit-init
loop-digit-init c = said_start c.args.digits.now

pub overflow_mul-value : goal.overflow_mul-value
overflow_mul-value c =
    let l = c.loop-digit in
    omega (arith, said_small c.args.digits.now c.requires l.digit-index l.value l.invariant c.loop-digit-test.true)

pub overflow_sub-digit : goal.overflow_sub-digit
overflow_sub-digit c = digit-low c.args.digits.now c.requires c.loop-digit.digit-index c.loop-digit-test.true

pub overflow_add-value : goal.overflow_add-value
overflow_add-value c =
    let l = c.loop-digit in
    omega (
      arith,
      said_small c.args.digits.now c.requires l.digit-index l.value l.invariant c.loop-digit-test.true,
      digit_high c.args.digits.now c.requires l.digit-index c.loop-digit-test.true,
      c.from.ensures,
    )

pub loop-digit-preserved : goal.loop-digit-preserved
loop-digit-preserved c =
    let l = c.loop-digit in
    said_more c.args.digits.now c.requires l.digit-index l.value l.invariant c.loop-digit-test.true c.from.result c.from.ensures

pub returns : goal.returns
returns c =
    let l = c.loop-digit in
    let ds = c.args.digits.now in
    let all = c.loop-digit-test.false in
    record {
      value = said_all ds l.digit-index l.value l.invariant all;
      small = all_small ds l.digit-index l.value l.invariant all l.auto.digit-index-end c.requires;
    }
