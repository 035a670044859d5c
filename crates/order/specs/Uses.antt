-- Which gates a gate uses (02, T-01): of n gates each has two numbers in the list, the gates that define its operands. A number of n or more
-- is no gate: a constant, an input or a latch. Assumes nothing.
use Rattle.std.specs.Prelude.{ℕ, ◌+◌, ◌*◌, ◌<◌, List, ◌≡◌, get_or}

abbrev pub first_of : List ℕ → (n gate : ℕ) → ℕ
first_of uses n gate = get_or uses (2 * gate) n

abbrev pub second_of : List ℕ → (n gate : ℕ) → ℕ
second_of uses n gate = get_or uses (2 * gate + 1) n

-- gate i has gate j as an operand
pub data Uses (uses : List ℕ) (n i j : ℕ) : Type 0 where
  as_first : j < n → first_of uses n i ≡ j → Uses uses n i j
  as_second : j < n → second_of uses n i ≡ j → Uses uses n i j
