-- Placing the gates (02, T-01): "a gate and its two operands are visited in turn until all are placed". Assumes nothing.
use Rattle.std.specs.Prelude.{ℕ, zero, suc, Bool, true, false, not, ◌&&◌, List, [], ◌∷◌, ◌++◌, eqb, ltb, get_or, set}
use Rattle.below.specs.Table.{table}
use Rattle.order.specs.Uses.{first_of, second_of}

-- which gates were visited, and which are placed, in order
pub record Placing : Type 0 where
  pub marks : List ℕ
  pub order : List ℕ

-- a gate behind the marks counts as marked
unfoldable pub marked : List ℕ → ℕ → Bool
marked marks gate = not (eqb (get_or marks gate 1) 0)

unfoldable pub waits : ℕ → List ℕ → ℕ → Bool
waits n marks gate = ltb gate n && not (marked marks gate)

abbrev pub mark : ℕ → Placing → Placing
mark gate p = record { marks = set p.marks gate 1; order = p.order }

abbrev pub place : ℕ → Placing → Placing
place gate p = record { marks = p.marks; order = p.order ++ (gate ∷ []) }

-- a gate of n or more and one that is marked change nothing; fuel of n is enough
unfoldable pub visit : List ℕ → (n fuel gate : ℕ) → Placing → Placing
visit uses n zero gate p = p
visit uses n (suc fuel) gate p =
    elim (waits n p.marks gate) [
      | true ↦ place gate (visit uses n fuel (second_of uses n gate) (visit uses n fuel (first_of uses n gate) (mark gate p)))
      | false ↦ p
    ]

abbrev pub nothing : ℕ → Placing
nothing n = record { marks = table (λ i. 0) n; order = [] }

-- gates 0 to k - 1 are visited in turn
unfoldable pub visits : List ℕ → (n k : ℕ) → Placing
visits uses n zero = nothing n
visits uses n (suc k) = visit uses n n k (visits uses n k)

unfoldable pub placed : List ℕ → ℕ → Placing
placed uses n = visits uses n n

unfoldable pub order_of : List ℕ → ℕ → List ℕ
order_of uses n = (placed uses n).order
