-- The front of a table. Assumes nothing.
use Prim.Native.Nat.{ℕ, min, ◌<◌, ◌≤◌}
use native.Mathlib.Omega.{arith}
use mathlib.Core.Path.{◌≡◌, sym, ◌∙◌}
use lib.ListN.{length, take, length-take}
use lib.Seq.{get_or-take, ext_get_or}
use Rattle.below.specs.Table.{table}
use Rattle.below.proofs.Laws.Table.{length_table, get_or_table}

pub take_table : (f : ℕ → ℕ) (m n : ℕ) → n ≤ m → take n (table f m) ≡ table f n
take_table f m n h = ext_get_or 0 (take n (table f m)) (table f n) (length-take n (table f m) ∙ long)
    (λ i l. get_or-take n (table f m) i 0 (within i l) ∙ get_or_table f m i 0 (omega (arith, within i l)) ∙ sym (get_or_table f n i 0 (within i l)))
  where
    long : min n (length (table f m)) ≡ length (table f n)
    long = omega (arith, length_table f m, length_table f n)

    within : (i : ℕ) → i < length (take n (table f m)) → i < n
    within i l = omega (arith, length-take n (table f m))
