-- The code's list of definers: for each variable the first of the gates that defines it; and the gates that it says an operand is (02, T-01).
-- Assumes nothing.
use Rattle.std.specs.Prelude.{ℕ, ◌+◌, ◌/◌, ◌%◌, ◌<◌, Bool, cond, List, ◌≡◌, eqb, ltb, length, get_or, Option, Some, None, unwrap_or}
use Rattle.below.specs.Least.{least}
use Rattle.circuit.specs.Limits.{base}
use Rattle.circuit.specs.Literal.{variable, constant}
use Rattle.reader.specs.Inner.Rows.{cell}

-- the first of n gates that passes
unfoldable pub first_that : (ℕ → Bool) → ℕ → Option ℕ
first_that p n = cond (ltb (least p n) n) (Some (least p n)) None

-- the gate of line j from a start on defines a variable
unfoldable pub defines : (rows : List (List ℕ)) (start v j : ℕ) → Bool
defines rows start v j = eqb (variable (cell rows (start + j) 0)) v

-- the first of n gates from a start on, for each variable
pub record Definers (rows : List (List ℕ)) (start n : ℕ) (definers : List (Option ℕ)) : Type 0 where
  pub long : length definers ≡ base.variable + 1
  pub at : (v : ℕ) → v < length definers → get_or definers v None ≡ first_that (defines rows start v) n

-- the gate that an operand is, or n where it is none
unfoldable pub definer_in : (definers : List (Option ℕ)) (n literal : ℕ) → ℕ
definer_in definers n l = cond (constant l) n (unwrap_or (get_or definers (variable l) None) n)

-- the operands of n gates from a start on, one after the other, as gates
unfoldable pub operand_at : (rows : List (List ℕ)) (start : ℕ) (definers : List (Option ℕ)) (n m : ℕ) → ℕ
operand_at rows start definers n m = definer_in definers n (cell rows (start + m / 2) (1 + m % 2))
