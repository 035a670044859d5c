-- Gates that reach themselves (02, T-01: number 16, "some gate reaches itself through gates, place the lowest line of such a gate"), as tests.
-- Assumes nothing.
use Rattle.std.specs.Prelude.{ℕ, Bool, List}
use Rattle.below.specs.Least.{least}
use Rattle.order.specs.Uses.{first_of, second_of}
use Rattle.order.specs.Placing.{Placing, marked, visit, nothing}

-- its operands visited from nothing
unfoldable pub from : List ℕ → (n gate : ℕ) → Placing
from uses n gate = visit uses n n (second_of uses n gate) (visit uses n n (first_of uses n gate) (nothing n))

-- a gate that only leads into a cycle doesn't meet itself
unfoldable pub meets_itself : List ℕ → (n gate : ℕ) → Bool
meets_itself uses n gate = marked (from uses n gate).marks gate

-- the lowest gate that reaches itself, or n where none does
unfoldable pub lowest_circle : List ℕ → ℕ → ℕ
lowest_circle uses n = least (meets_itself uses n) n
