-- A net that was made and is lent as long as it is, is the net of the circuit, in order. Assumes nothing.
use Prim.Native.Nat.{ℕ}
use native.Mathlib.Omega.{arith}
use mathlib.Core.List.{List}
use mathlib.Core.Path.{◌≡◌, sym, ap, ◌∙◌}
use lib.ListN.{length, take, drop}
use lib.Seq.{take_at}
use Rattle.below.specs.Table.{table}
use Rattle.below.proofs.Laws.Table.{length_table}
use Rattle.bits.proofs.Laws.Wrote.{sets_front}
use Rattle.circuit.specs.Circuit.{Circuit}
use Rattle.net.specs.InOrder.{InOrder}
use Rattle.net.specs.Made.{most, MadeAs}
use Rattle.net.specs.NetOf.{net_of}
use Rattle.net.specs.declared.Net.{Net}
pub use Rattle.net.proofs.Laws.Room.{meant_room}
use Rattle.net.proofs.Laws.InOrder.{Room, net_in_order}
use Rattle.net.proofs.Laws.Made.{net_most, over_zeros}

module _ (c : Circuit) (room : Room c) where
  pub lent_net : (made : Net) → MadeAs (net_of c) made → take made.length made.numbers ≡ net_of c
  lent_net made m =
      ap (take made.length) (m.numbers ∙ sym (over_zeros most (net_of c) (net_most c room))
      ∙ sets_front zeros (net_of c) (omega (arith, net_most c room, length_table {A = ℕ} (λ i. 0) most)))
      ∙ take_at (net_of c) (drop (length (net_of c)) zeros) made.length (sym m.length)
    where
      zeros : List ℕ
      zeros = table (λ i. 0) most

  pub lent_in_order : (made : Net) → MadeAs (net_of c) made → InOrder (take made.length made.numbers)
  lent_in_order made m = rw (lent_net made m) (net_in_order c room)
