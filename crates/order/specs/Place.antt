-- Where a gate stands in an order (02, T-01): the first place that holds its number. Assumes nothing.
use Rattle.std.specs.Prelude.{ℕ, List, eqb, length, get_or}
use Rattle.below.specs.Least.{least}

unfoldable pub place_in : List ℕ → (gate : ℕ) → ℕ
place_in order gate = least (λ k. eqb (get_or order k 0) gate) (length order)
