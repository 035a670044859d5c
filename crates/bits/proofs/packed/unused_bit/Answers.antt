-- `bits::packed::unused_bit` meets its contract: none of the unused bits passed is 1. Assumes nothing.
use native.Mathlib.Omega.{arith}
use Rattle.bits.proofs.Laws.UnusedBytes.{none_before_next, none_before-found, none_before_end}
use Rattle.bits.proofs.packed.unused_bit.Goals as goal

pub returns-then-bytes-at-ne0 : goal.returns-then-bytes-at-ne0
returns-then-bytes-at-ne0 c =
    let l = c.loop-at in
    none_before-found c.args.bytes.now c.args.n l.at l.used l.invariant (omega (arith, c.loop-at-test.true))
    (omega (arith, c.type_inv.bytes l.at)) c.if-bytes-at-ne0.true

pub loop-at-preserved : goal.loop-at-preserved
loop-at-preserved c = let l = c.loop-at in none_before_next _ _ l.at l.used l.invariant c.if-bytes-at-ne0.false

pub returns : goal.returns
returns c = let l = c.loop-at in none_before_end _ _ l.at l.used l.invariant (omega arith)
