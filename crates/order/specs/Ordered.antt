-- An order of evaluation (02, T-01: "evaluation follows dependency"): it holds each of n gates once, each behind the gates that it uses; as a
-- statement and as a test. Assumes nothing.
use Rattle.std.specs.Prelude.{ℕ, ◌<◌, Bool, not, ◌&&◌, ◌||◌, List, ◌≡◌, eqb, ltb, leb, length, get_or, take}
use Rattle.below.specs.Least.{every}
use Rattle.below.specs.Among.{member}
use Rattle.order.specs.Uses.{Uses, first_of, second_of}

pub record Ordered (uses : List ℕ) (n : ℕ) (order : List ℕ) : Type 0 where
  pub long : length order ≡ n
  pub within : (k : ℕ) → k < n → get_or order k n < n
  pub each : (gate : ℕ) → gate < n → (k : ℕ) × (k < n) × (get_or order k n ≡ gate)
  pub once : (k m : ℕ) → k < n → m < n → get_or order k n ≡ get_or order m n → k ≡ m
  pub before : (k j : ℕ) → k < n → Uses uses n (get_or order k n) j → (m : ℕ) × (m < k) × (get_or order m n ≡ j)

-- an operand is no gate, or stands in front
unfoldable pub stands : ℕ → List ℕ → ℕ → Bool
stands n front j = leb n j || member j front

-- this gate may stand behind those in front
unfoldable pub fits : List ℕ → ℕ → List ℕ → ℕ → Bool
fits uses n front gate = (ltb gate n && not (member gate front)) && (stands n front (first_of uses n gate) && stands n front (second_of uses n gate))

unfoldable pub is_ordered : List ℕ → ℕ → List ℕ → Bool
is_ordered uses n order = eqb (length order) n && every (λ k. fits uses n (take k order) (get_or order k n)) n
