-- The code's marks for the variables that are defined, one byte for each (01, "The file", rule 4), and the number of a fault.
-- Assumes nothing.
use Rattle.std.specs.Prelude.{ℕ, Bool, not, ◌&&◌, List, ◌≡◌, eqb, get_or, Option as Found, Some, None}
use Rattle.std.proofs.Math.Option.{Option, none, some}
use Rattle.below.specs.Among.{member}
use Rattle.circuit.specs.Fault.{number_of}
use Rattle.circuit.specs.declared.numbers.Fault.{Fault}
use Rattle.circuit.specs.Literal.{variable, constant}

-- a literal's variable is marked; and a literal is neither a constant nor marked
unfoldable pub marked : List ℕ → ℕ → Bool
marked marks l = eqb (get_or marks (variable l) 0) 1

unfoldable pub unmarked : List ℕ → ℕ → Bool
unmarked marks l = not (constant l) && not (marked marks l)

-- exactly the variables of a list are marked
unfoldable pub Marks : List ℕ → List ℕ → Type 0
Marks marks defined = (v : ℕ) → eqb (get_or marks v 0) 1 ≡ member v defined

-- the number of a fault, where there is one
abbrev pub number_if : Found Fault → Option ℕ
number_if None = none
number_if (Some fault) = some (number_of fault)
