-- `Packing::put` meets its contract: byte after byte is laid. Assumes nothing.
use native.Mathlib.Omega.{arith}
use Prim.Native.Nat.{ℕ}
use mathlib.Core.Path.{sym, ap, ◌∙◌}
use lib.Seq.{sets}
use Rattle.below.specs.Table.{table}
use Rattle.bits.specs.BitBytes.{bit_bytes}
use Rattle.bits.specs.Packed.{packed_bytes}
use Rattle.bits.proofs.Laws.Packed.{packed_length_lem}
use Rattle.bits.proofs.Laws.Wrote.{put-fits}
use Rattle.put.specs.Inner.Packing.{bytes_of, number_of}
use Rattle.put.proofs.Laws.Laid.{laid_start, laid_next, laid_all, wide}
use Rattle.put.proofs.packed.Packing.put.Goals as goal
use Rattle.put.proofs.packed.Packing.put.Invariants.{byte_of}

pub loop-j-init : goal.loop-j-init
loop-j-init c = laid_start (byte_of c.args.self.now) _ c.args.out.now c.args.at

pub byte-requires : goal.byte-requires
byte-requires c =
    let p = c.args.self.now in
    wide p.n p.width _ c.loop-j.j (packed_length_lem (number_of p) p.width p.n) (omega (arith, c.loop-j-test.true, c.bytes-j-end.ensures))

pub loop-j-preserved : goal.loop-j-preserved
loop-j-preserved c =
    let l = c.loop-j in
    laid_next (byte_of c.args.self.now) _ c.args.out.now c.args.at l.j c.byte.result l.out l.invariant
    (omega (arith, c.loop-j-test.true, c.bytes-j-end.ensures)) c.byte.ensures

pub returns : goal.returns
unfolding packed_bytes bit_bytes
returns c =
    let p = c.args.self.now in
    let l = c.loop-j in
    laid_all (byte_of p) _ c.args.out.now c.args.at l.j l.out l.invariant (omega (arith, c.loop-j-test.false, c.bytes-j-end.ensures))
    ∙ ap (λ (m : ℕ). sets c.args.out.now c.args.at (table (byte_of p) m)) (packed_length_lem (number_of p) p.width p.n)
    ∙ sym (put-fits c.args.out.now c.args.at (bytes_of p) c.requires)
