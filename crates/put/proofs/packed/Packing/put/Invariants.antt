-- What `Packing::put` keeps from turn to turn: byte after byte is laid. Assumes nothing.
use Prim.Native.Nat.{ℕ, ◌*◌}
use lib.ListN.{length}
use Rattle.bits.specs.BitBytes.{bit_byte}
use Rattle.bits.specs.Packed.{packed_bit}
use Rattle.put.specs.declared.packed.Packing.{Packing}
use Rattle.put.specs.Inner.Packing.{bytes_of, number_of}
use Rattle.put.proofs.Laws.Laid.{Laid}
use Rattle.put.proofs.packed.Packing.put.Given as goal

-- byte j
abbrev pub byte_of : Packing → (j : ℕ) → ℕ
byte_of p = bit_byte (packed_bit (number_of p) p.width) (p.n * p.width)

abbrev pub invariant-loop-j : goal.invariant-loop-j
invariant-loop-j l = Laid (byte_of l.self) (length (bytes_of l.self)) l.initial.out l.at l.j l.out
