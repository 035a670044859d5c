-- A head has six bytes; putting it at a place is writing it there. Assumes nothing.
use Prim.Native.Nat.{ℕ, ◌+◌}
use native.Mathlib.Omega.{arith}
use mathlib.Core.List.{List}
use mathlib.Core.Path.{◌≡◌}
use lib.ListN.{length, length-append}
use Rattle.bits.specs.Digits.{digits}
use Rattle.bits.specs.Wrote.{Wrote, put_at}
use Rattle.bits.proofs.Laws.Digits.{length_digits}
use Rattle.bits.proofs.Laws.Wrote.{wrote_put}
use Rattle.put.specs.Head.{head_of}

pub length_head : (kind n : ℕ) → length (head_of kind n) ≡ 6
length_head kind n = omega (arith, length-append (digits 256 4 n) (digits 256 2 kind), length_digits 256 4 n, length_digits 256 2 kind)

pub wrote_head :
    (kind n : ℕ) {at next : ℕ} {before after : List ℕ} → next ≡ at + 6 → after ≡ put_at before at (head_of kind n)
    → Wrote (head_of kind n) at before after next
wrote_head kind n e f = wrote_put (omega (arith, length_head kind n)) f
