-- Zeros everywhere. Assumes nothing.
use Prim.Native.Nat.{ℕ}
use native.Mathlib.Decide.{dec_lt}
use native.Mathlib.Omega.{arith}
use mathlib.Core.Path.{◌≡◌}
use lib.ListN.{get_or}
use Rattle.below.specs.Table.{table}
use Rattle.below.proofs.Laws.Table.{get_or_table, get_or_table_past}

pub zeros_at : (n i : ℕ) → ◌≡◌ {A = ℕ} (get_or (table (λ j. 0) n) i 0) 0
zeros_at n i = elim (dec_lt i n) [ yes h ↦ get_or_table (λ j. 0) n i 0 h | no h ↦ get_or_table_past (λ j. 0) n i 0 (omega arith) ]
