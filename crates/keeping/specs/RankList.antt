-- A list of ranks (01, "The game") as a function on states. Assumes nothing.
use Rattle.std.specs.Prelude.{ℕ, List, get_or}

-- states that aren't there have rank 0
unfoldable pub ranks_in : List ℕ → (state : ℕ) → ℕ
ranks_in ranks = λ s. get_or ranks s 0
