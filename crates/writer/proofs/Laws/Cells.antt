-- The cells that the code writes for a solved circuit are the table of its replies, by the kind of its record. Assumes nothing.
use Prim.Native.Nat.{ℕ, ◌*◌, ◌≤◌, min}
use native.Mathlib.Nat.{mul_comm, mul-le-mul_right}
use native.Mathlib.Omega.{arith}
use mathlib.Core.List.{List}
use mathlib.Core.Path.{◌≡◌, refl, ap}
use lib.ListN.{length, get_or, take, length-take}
use Rattle.bits.specs.Packed.{packed_bytes}
use Rattle.bits.proofs.Laws.Packed.{packed_length_lem}
use Rattle.circuit.specs.Limits.{base}
use Rattle.records.specs.Record.{reply_kind, packed_kind}
use Rattle.writer.specs.Inner.Cells.{cells_of}
use Rattle.writer.proofs.Laws.PutAt.{counted_put}

-- a byte each
pub byte_cells : (replies : List ℕ) (n controls : ℕ) → cells_of reply_kind replies n controls ≡ take n replies
unfolding cells_of
byte_cells replies n controls = refl

pub byte_few : (replies : List ℕ) (n : ℕ) → length (take n replies) ≤ n
byte_few replies n = omega (arith, length-take n replies)

-- packed, by the width that code takes
pub packed_cells :
    (replies : List ℕ) (n controls : ℕ) → controls ≤ base.controllable
    → cells_of packed_kind replies n controls ≡ packed_bytes (λ k. get_or replies k 0) (min controls 8) n
unfolding cells_of
packed_cells replies n controls h = let narrow : controls ≡ min controls 8 = omega arith in ap (λ (w : ℕ). packed_bytes (λ k. get_or replies k 0) w n) narrow

-- no more bytes than replies
pub few_bits : (n controls : ℕ) → controls ≤ base.controllable → controls * n ≤ base.controllable * n
few_bits n controls h = mul-le-mul_right {m = controls} {n = base.controllable} n h

pub packed_few : (replies : List ℕ) (n controls : ℕ) → length (packed_bytes (λ k. get_or replies k 0) (min controls 8) n) ≤ n
packed_few replies n controls =
    omega (arith, packed_length_lem (λ k. get_or replies k 0) (min controls 8) n, mul_comm n (min controls 8), few_bits n (min controls 8) (omega arith))

pub ruleset cells = (counted_put, byte_cells, byte_few, packed_cells, packed_few)
