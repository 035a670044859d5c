-- Searching from a start on: the least i from there, below n, that passes the test p, or n where none does. Assumes nothing.
use Rattle.std.specs.Prelude.{ℕ, Bool, ◌&&◌, leb}
use Rattle.below.specs.Least.{least}

unfoldable pub least_from : (ℕ → Bool) → (from n : ℕ) → ℕ
least_from p from n = least (λ i. leb from i && p i) n
