-- Which gates a gate uses (02, T-01: "operands may be any defined variable"): of a list of gates, the one that defines an operand's variable. A
-- constant, an input and a latch are no gate: they count as the length of the list. Assumes nothing.
use Rattle.std.specs.Prelude.{ℕ, cond, eqb, length}
use mathlib.Core.List.{List, [], ◌∷◌, flat_map}
use Rattle.below.specs.Least.{least}
use Rattle.circuit.specs.Circuit.{Gate, gate_at}
use Rattle.circuit.specs.Literal.{variable, constant}
use Rattle.order.specs.Placing.{order_of}
use Rattle.order.specs.Place.{place_in}

unfoldable pub definer : List Gate → (literal : ℕ) → ℕ
definer gates l = cond (constant l) (length gates) (least (λ j. eqb (variable (gate_at gates j).own) (variable l)) (length gates))

-- two numbers for each gate, as the crate order takes them
unfoldable pub uses_of : List Gate → List ℕ
uses_of gates = flat_map (λ (g : Gate). definer gates g.left ∷ definer gates g.right ∷ []) gates

-- the order in which gates on lines are evaluated: which line comes first, and so on; and where in that order the gate of a line stands
unfoldable pub evaluation : List Gate → List ℕ
evaluation gates = order_of (uses_of gates) (length gates)

unfoldable pub evaluated : List Gate → (line : ℕ) → ℕ
evaluated gates i = place_in (evaluation gates) i
