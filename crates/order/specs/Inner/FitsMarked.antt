-- What the marks say of one gate in the test of an order: gates in front are marked; this one isn't, its operands' are. Assumes nothing.
use Rattle.std.specs.Prelude.{ℕ, Bool, not, ◌&&◌, List, length}
use Rattle.order.specs.Uses.{first_of, second_of}
use Rattle.order.specs.Placing.{marked}

unfoldable pub fits_marked : (uses marks : List ℕ) → ℕ → Bool
fits_marked uses marks gate = not (marked marks gate) && (marked marks (first_of uses (length marks) gate) && marked marks (second_of uses (length marks) gate))
