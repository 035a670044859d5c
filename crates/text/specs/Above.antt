-- Gates that stand in order (01, "The file", rule 4): an operand is a constant, or its variable is among those above its gate: these, and the gates
-- before it. Assumes nothing.
use Rattle.std.specs.Prelude.{ℕ, List, [], ◌∷◌, ◌++◌}
use Rattle.circuit.specs.Circuit.{Gate}
use Rattle.circuit.specs.Literal.{variable}
use Rattle.text.specs.WellFormed.{Known}

abbrev pub Operands : (above : List ℕ) → List Gate → Type 0
Operands above [] = Unit {0}
Operands above (g ∷ gs) = Known above g.left × Known above g.right × Operands (above ++ (variable g.own ∷ [])) gs
