-- `bits::packed::packed_number` meets its contract: bit after bit is gathered, and no place wraps. Assumes nothing.
use Prim.Native.Nat.{◌+◌, ◌*◌}
use native.Mathlib.Omega.{arith}
use mathlib.Core.Path.{◌≡◌, ◌∙◌}
use Rattle.bits.specs.ByteBit.{byte_bit}
use Rattle.bits.proofs.Laws.ByteBit.{byte_bit_below}
use Rattle.bits.proofs.Laws.Gathered.{gathered_start, gathered_fits, gathered_next}
use Rattle.bits.proofs.Laws.PackedBits.{bit-by-place}
use Rattle.bits.proofs.packed.packed_number.Goals as goal

pub loop-j-init : goal.loop-j-init
loop-j-init c = gathered_start _ c.min-w.result

-- the bit that was taken
taken : (c : goal.After-bit_at) → c.bit_at.result ≡ byte_bit c.args.bytes.now (c.args.k * c.min-w.result + c.loop-j.j)
taken c = c.bit_at.ensures ∙ bit-by-place c.args.bytes.now c.min-w.result c.args.k c.loop-j.j

pub overflow_add-number : goal.overflow_add-number
overflow_add-number c =
    let l = c.loop-j in
    let w = c.min-w.result in
    omega (arith, gathered_fits _ (λ i. byte_bit_below c.args.bytes.now (c.args.k * w + i)) w l.j l.number c.bit_at.result l.invariant (taken c) (omega arith))

pub loop-j-preserved : goal.loop-j-preserved
loop-j-preserved c =
    let l = c.loop-j in
    let w = c.min-w.result in
    gathered_next _ (λ i. byte_bit_below c.args.bytes.now (c.args.k * w + i)) w l.j l.number c.bit_at.result l.invariant (taken c) (omega arith) (omega arith)
