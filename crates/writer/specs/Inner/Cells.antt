-- A list of replies as the contents of a reply record of a kind (01, kind 3; 02, T-07, kind 5): the first n of them. Assumes nothing.
use Rattle.std.specs.Prelude.{ℕ, cond, List, eqb, get_or, take}
use Rattle.bits.specs.Packed.{packed_bytes}
use Rattle.records.specs.Record.{packed_kind}

unfoldable pub cells_of : (kind : ℕ) → (replies : List ℕ) → (n C : ℕ) → List ℕ
cells_of kind replies n C = cond (eqb kind packed_kind) (packed_bytes (λ k. get_or replies k 0) C n) (take n replies)
