-- What is answered of gates (02, T-01): that they are in order, or the lowest that reaches itself. Assumes nothing.
use Rattle.std.specs.Prelude.{ℕ, min, ◌/◌, cond, List, ◌++◌, Result, Ok, Err, ltb, length, drop}
use Rattle.below.specs.Table.{table}
use Rattle.order.specs.Placing.{order_of}
use Rattle.order.specs.Circle.{lowest_circle}

unfoldable pub answer_of : List ℕ → ℕ → Result (Unit {0}) ℕ
answer_of uses n = cond (ltb (lowest_circle uses n) n) (Err (lowest_circle uses n)) (Ok tt)

-- how many gates are spoken of: as many as all three lists have room for
abbrev pub gates_in : (uses marks order : List ℕ) → ℕ
gates_in uses marks order = min (min (length uses / 2) (length marks)) (min (length order) 65535)

-- what the lists hold then, whatever is answered: the gates as they were placed, and no mark; behind them what was there
abbrev pub places_after : (uses marks order : List ℕ) → List ℕ
places_after uses marks order = order_of uses (gates_in uses marks order) ++ drop (gates_in uses marks order) order

abbrev pub marks_after : (uses marks order : List ℕ) → List ℕ
marks_after uses marks order = table (λ i. 0) (gates_in uses marks order) ++ drop (gates_in uses marks order) marks
