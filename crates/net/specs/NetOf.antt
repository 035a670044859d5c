-- The net of a circuit: each input, latch and gate in turn names the net's variable that stands for its own from there on. Controls come
-- first, then readings, then latches, then gates. Assumes nothing.
use Rattle.std.specs.Prelude.{ℕ, suc, ◌+◌, ◌*◌, cond, List, [], ◌∷◌, ◌++◌, map, eqb}
use Rattle.bits.specs.Bit.{one_if}
use Rattle.circuit.specs.Circuit.{Circuit, Input, Latch, Gate, latch_count, uncontrollable_count, controllable_count}
use Rattle.circuit.specs.Literal.{variable, inverted, constant}

-- the net's variable for each variable of a circuit; 0, which is false, where it has none
abbrev pub Names : Type 0
Names = ℕ → ℕ

unfoldable pub name : (v w : ℕ) → Names → Names
name v w names = λ u. cond (eqb u v) w (names u)

unfoldable pub net_literal : Names → ℕ → ℕ
net_literal names l = cond (constant l) l (2 * names (variable l) + one_if (inverted l))

-- the next control is variable k, the next reading variable r
unfoldable pub name_inputs : List Input → (k r : ℕ) → Names → Names
name_inputs [] k r names = names
name_inputs (i ∷ is) k r names =
    cond i.controllable
    (name_inputs is (suc k) r (name (variable i.own) k names))
    (name_inputs is k (suc r) (name (variable i.own) r names))

unfoldable pub name_latches : List Latch → (v : ℕ) → Names → Names
name_latches [] v names = names
name_latches (l ∷ ls) v names = name_latches ls (suc v) (name (variable l.own) v names)

unfoldable pub name_gates : List Gate → (v : ℕ) → Names → Names
name_gates [] v names = names
name_gates (g ∷ gs) v names = name_gates gs (suc v) (name (variable g.own) v names)

unfoldable pub operands_of : List Gate → (v : ℕ) → Names → List ℕ
operands_of [] v names = []
operands_of (g ∷ gs) v names =
    net_literal names g.left
    ∷ net_literal names g.right
    ∷ operands_of gs (suc v) (name (variable g.own) v names)

-- the names that inputs and latches give, and those that all give
unfoldable pub first_names : Circuit → Names
first_names c =
    name_latches c.latches (1 + controllable_count c + uncontrollable_count c)
    (name_inputs c.inputs 1 (1 + controllable_count c) (λ v. 0))

unfoldable pub gate_start : Circuit → ℕ
gate_start c = 1 + controllable_count c + uncontrollable_count c + latch_count c

unfoldable pub all_names : Circuit → Names
all_names c = name_gates c.gates (gate_start c) (first_names c)

unfoldable pub net_of : Circuit → List ℕ
net_of c =
    controllable_count c
    ∷ uncontrollable_count c
    ∷ latch_count c
    ∷ net_literal (all_names c) c.output
    ∷ (map (λ (l : Latch). net_literal (all_names c) l.next) c.latches
    ++ operands_of c.gates (gate_start c) (first_names c))
