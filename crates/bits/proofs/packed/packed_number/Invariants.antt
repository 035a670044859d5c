-- What `bits::packed::packed_number` keeps from turn to turn: bit after bit is gathered, and no place wraps. Assumes nothing.
use Prim.Native.Nat.{◌+◌, ◌*◌}
use Rattle.bits.specs.ByteBit.{byte_bit}
use Rattle.bits.proofs.Laws.Gathered.{Gathered}
use Rattle.bits.proofs.packed.packed_number.Given as goal

abbrev pub invariant-loop-j : goal.invariant-loop-j
invariant-loop-j l = Gathered (λ i. byte_bit l.bytes (l.k * l.w + i)) l.w l.j l.number
