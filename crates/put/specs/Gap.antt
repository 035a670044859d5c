-- Bytes with n of them taken out at a place (02, T-08: "taking one out closes the gap", "the rest is 0"): from there on byte i becomes byte
-- i + n, and bytes that aren't there are 0. Assumes nothing.
use Rattle.std.specs.Prelude.{ℕ, ◌+◌, cond, List, leb, length, get_or}
use Rattle.below.specs.Table.{table}

unfoldable pub close_gap : List ℕ → (at n : ℕ) → List ℕ
close_gap bytes at n = table (λ i. cond (leb at i) (get_or bytes (i + n) 0) (get_or bytes i 0)) (length bytes)
