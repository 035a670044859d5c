-- Operands that stand above their gates (01, "The file", rule 4), gate by gate. Assumes nothing.
use Prim.Native.Nat.{ℕ, zero, suc, ◌<◌}
use native.Mathlib.Omega.{arith}
use native.Mathlib.Nat.{not-suc-le-zero}
use mathlib.Core.List.{List, [], ◌∷◌, ◌++◌, map, append-nil, append_assoc}
use mathlib.Core.Path.{sym, subst}
use lib.ListN.{length, take}
use Rattle.circuit.specs.Circuit.{Gate, gate_at}
use Rattle.text.specs.Above.{Operands}
use Rattle.text.specs.WellFormed.{Known}
use Rattle.text.proofs.Laws.GateUses.{gate_variable}

-- operands that stand above, gate by gate
abbrev pub Above : (above : List ℕ) (gs : List Gate) (k : ℕ) → Type 0
Above above gs k = Known (above ++ map gate_variable (take k gs)) (gate_at gs k).left × Known (above ++ map gate_variable (take k gs)) (gate_at gs k).right

pub operands_of_lem : (above : List ℕ) (gs : List Gate) → ((k : ℕ) → k < length gs → Above above gs k) → Operands above gs
unfolding gate_at
operands_of_lem above [] w = tt
operands_of_lem above (g ∷ gs) w =
    let here : Known above g.left × Known above g.right =
    subst (λ (vs : List ℕ). Known vs g.left × Known vs g.right) (append-nil above) (w zero (omega arith)) in (
      here.0,
      here.1,
      operands_of_lem (above ++ (gate_variable g ∷ [])) gs
          (λ k h. subst (λ (vs : List ℕ). Known vs (gate_at gs k).left × Known vs (gate_at gs k).right)
          (sym (append_assoc above (gate_variable g ∷ []) (map gate_variable (take k gs)))) (w (suc k) (omega (arith, h)))),
    )

pub operands_at : (above : List ℕ) (gs : List Gate) → Operands above gs → (k : ℕ) → k < length gs → Above above gs k
unfolding gate_at
operands_at above [] o k h = absurd (not-suc-le-zero h)
operands_at above (g ∷ gs) o zero h =
    subst (λ (vs : List ℕ). Known vs g.left × Known vs g.right) (sym (append-nil above)) (o.0, o.1)
operands_at above (g ∷ gs) o (suc k) h =
    subst (λ (vs : List ℕ). Known vs (gate_at gs k).left × Known vs (gate_at gs k).right)
    (append_assoc above (gate_variable g ∷ []) (map gate_variable (take k gs)))
    (operands_at (above ++ (gate_variable g ∷ [])) gs o.2 k (omega (arith, h)))
