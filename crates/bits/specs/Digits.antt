-- A number as the sum of its digits, lowest first: in base 2 its bits (01, "The game": latch k × 2^k), in base 256 its bytes,
-- little-endian (01, "The certificate"). Assumes nothing.
use Rattle.std.specs.Prelude.{ℕ, zero, suc, ◌+◌, ◌*◌, ◌/◌, ◌%◌, ◌<◌, List, [], ◌∷◌}

-- the lowest w digits of n in base b, lowest first
unfoldable pub digits : ℕ → ℕ → ℕ → List ℕ
digits b zero n = []
digits b (suc w) n = n % b ∷ digits b w (n / b)

-- the sum of digit k × b^k
unfoldable pub sum : ℕ → List ℕ → ℕ
sum b [] = 0
sum b (d ∷ ds) = d + b * sum b ds

-- each number of the list is below b
abbrev pub AllBelow : ℕ → List ℕ → Type 0
AllBelow b [] = Unit {0}
AllBelow b (d ∷ ds) = (d < b) × AllBelow b ds
