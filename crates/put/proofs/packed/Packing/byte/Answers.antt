-- `Packing::byte` meets its contract: bit after bit is gathered. Assumes nothing.
use native.Mathlib.Omega.{arith}
use Rattle.bits.specs.BitBytes.{bit_byte}
use Rattle.bits.proofs.Laws.Bit.{one_if_below}
use Rattle.bits.proofs.Laws.Gathered.{gathered_start, gathered_fits, gathered_next, gathered_all}
use Rattle.put.proofs.packed.Packing.byte.Goals as goal
use Rattle.put.proofs.packed.Packing.byte.Invariants.{bit_of}

pub loop-b-init : goal.loop-b-init
loop-b-init c = gathered_start (bit_of c.args.self.now c.args.j) 8

pub overflow_add-byte : goal.overflow_add-byte
overflow_add-byte c =
    let l = c.loop-b in
    omega
    (arith, gathered_fits (bit_of c.args.self.now c.args.j) (λ b. one_if_below _) 8 l.b l.byte c.bit.result l.invariant c.bit.ensures (omega arith))

pub loop-b-preserved : goal.loop-b-preserved
loop-b-preserved c =
    let l = c.loop-b in
    gathered_next (bit_of c.args.self.now c.args.j) (λ b. one_if_below _) 8 l.b l.byte c.bit.result l.invariant c.bit.ensures (omega arith) (omega arith)

pub returns : goal.returns
unfolding bit_byte
returns c = let l = c.loop-b in gathered_all (bit_of c.args.self.now c.args.j) 8 l.b l.byte l.invariant (omega arith)
