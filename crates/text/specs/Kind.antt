-- The kinds of line before the symbols (01, "The file", rule 2), and what the literals of each are for (rules 3 and 4). Assumes nothing.
use Rattle.std.specs.Prelude.{ℕ, List, [], ◌∷◌, ◌++◌, map, get_or, replicate}
use Rattle.circuit.specs.Circuit.{Latch, Gate}
use Rattle.circuit.specs.Literal.{variable}
use Rattle.text.specs.Header.{Header}

pub data Kind : Type 0 where
  an_input : Kind
  a_latch : Kind
  the_output : Kind
  a_gate : Kind

-- I lines, L lines, one line, A lines
abbrev pub kinds : Header → List Kind
kinds h = replicate h.inputs an_input ++ (replicate h.latches a_latch ++ (the_output ∷ replicate h.gates a_gate))

-- how many numbers a line has
abbrev pub numbers_in : Kind → ℕ
numbers_in an_input = 1
numbers_in a_latch = 2
numbers_in the_output = 1
numbers_in a_gate = 3

-- of a line's numbers, the literal that defines
abbrev pub defining : Kind → List ℕ → List ℕ
defining an_input fs = get_or fs 0 0 ∷ []
defining a_latch fs = get_or fs 0 0 ∷ []
defining the_output fs = []
defining a_gate fs = get_or fs 0 0 ∷ []

-- and those that it uses: a next state, the output, a gate's operands
abbrev pub used_by : Kind → List ℕ → List ℕ
used_by an_input fs = []
used_by a_latch fs = get_or fs 1 0 ∷ []
used_by the_output fs = get_or fs 0 0 ∷ []
used_by a_gate fs = get_or fs 1 0 ∷ get_or fs 2 0 ∷ []

-- the variables that a line defines, and lines
abbrev pub defined_by : Kind → List ℕ → List ℕ
defined_by kind fs = map variable (defining kind fs)

abbrev pub defined_by_all : List Kind → List (List ℕ) → List ℕ
defined_by_all [] rows = []
defined_by_all (k ∷ ks) [] = []
defined_by_all (k ∷ ks) (fs ∷ rows) = defined_by k fs ++ defined_by_all ks rows

-- what lines use, a list for each
abbrev pub used_by_all : List Kind → List (List ℕ) → List (List ℕ)
used_by_all [] rows = []
used_by_all (k ∷ ks) [] = []
used_by_all (k ∷ ks) (fs ∷ rows) = used_by k fs ∷ used_by_all ks rows

-- the latch and the gate that a line says
unfoldable pub latch_of : List ℕ → Latch
latch_of fs = record { own = get_or fs 0 0; next = get_or fs 1 0 }

unfoldable pub gate_of : List ℕ → Gate
gate_of fs = record { own = get_or fs 0 0; left = get_or fs 1 0; right = get_or fs 2 0 }
