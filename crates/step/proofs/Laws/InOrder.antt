-- A circuit whose lines stand in order (01, "The file", rule 4), in the words of tests: each variable is defined once, an operand is a constant or
-- defined above its line, an output or next-state literal a constant or defined at all. Assumes nothing.
use Prim.Native.Nat.{ℕ, ◌<◌}
use mathlib.Core.Bool.{true, false}
use mathlib.Core.List.{List, [], ◌∷◌, ◌++◌, append-nil, append_assoc}
use mathlib.Core.Logic.{◌⊎◌}
use mathlib.Core.Path.{◌≡◌, sym, subst}
use Rattle.below.specs.Among.{member}
use Rattle.circuit.specs.Circuit.{Circuit, Latch, Gate}
use Rattle.circuit.specs.Literal.{variable}
use Rattle.step.specs.Defined.{gate_variable, of_inputs_and_latches, defined_by}

-- each variable of the second list is none of those before it, those seen among them
abbrev pub Once : (seen vs : List ℕ) → Type 0
Once seen [] = Unit {0}
Once seen (v ∷ vs) = (member v seen ≡ false) × Once (seen ++ (v ∷ [])) vs

-- a constant, or a literal of one of these variables
abbrev pub Known : List ℕ → ℕ → Type 0
Known defined l = (l < 2) ⊎ (member (variable l) defined ≡ true)

abbrev pub Operands : List ℕ → List Gate → Type 0
Operands above [] = Unit {0}
Operands above (g ∷ gs) = Known above g.left × Known above g.right × Operands (above ++ (gate_variable g ∷ [])) gs

abbrev pub Nexts : List ℕ → List Latch → Type 0
Nexts defined [] = Unit {0}
Nexts defined (l ∷ ls) = Known defined l.next × Nexts defined ls

pub record InOrder (c : Circuit) : Type 0 where
  pub once : Once [] (defined_by c)
  pub operands : Operands (of_inputs_and_latches c) c.gates
  pub nexts : Nexts (defined_by c) c.latches
  pub error : Known (defined_by c) c.output

pub once_append : (seen vs ws : List ℕ) → Once seen (vs ++ ws) → Once seen vs × Once (seen ++ vs) ws
once_append seen [] ws o = (tt, subst (λ (l : List ℕ). Once l ws) (sym (append-nil seen)) o)
once_append seen (v ∷ vs) ws o =
    let p = once_append (seen ++ (v ∷ [])) vs ws o.1 in
    ((o.0, p.0), subst (λ (l : List ℕ). Once l ws) (append_assoc seen (v ∷ []) vs) p.1)
