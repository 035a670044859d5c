-- What `Packing::byte` keeps from turn to turn: bit after bit is gathered. Assumes nothing.
use Prim.Native.Nat.{ℕ, ◌+◌, ◌*◌}
use mathlib.Core.Bool.{◌&&◌}
use lib.Dec.{ltb}
use Rattle.bits.specs.Bit.{one_if}
use Rattle.bits.specs.Packed.{packed_bit}
use Rattle.bits.proofs.Laws.Gathered.{Gathered}
use Rattle.put.specs.declared.packed.Packing.{Packing}
use Rattle.put.specs.Inner.Packing.{number_of}
use Rattle.put.proofs.packed.Packing.byte.Given as goal

-- bit b of byte j
abbrev pub bit_of : Packing → (j b : ℕ) → ℕ
bit_of p j b = one_if (ltb (8 * j + b) (p.n * p.width) && packed_bit (number_of p) p.width (8 * j + b))

abbrev pub invariant-loop-b : goal.invariant-loop-b
invariant-loop-b l = Gathered (bit_of l.self l.j) 8 l.b l.byte
