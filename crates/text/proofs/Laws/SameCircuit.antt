-- Files that were read and whose circuits are the same circuit (01, "The numbers": equal header numbers, lines and controllable inputs) mean equal
-- circuits: the order of evaluation is that of the lines. Assumes nothing.
use Prim.Native.Nat.{ℕ}
use native.Mathlib.Omega.{arith}
use mathlib.Core.List.{List}
use mathlib.Core.Path.{◌≡◌, refl, sym, ◌∙◌, subst₂}
use Rattle.circuit.specs.Circuit.{Circuit}
use Rattle.circuit.specs.Limits.{base}
use Rattle.circuit.specs.Outcome.{taken}
use Rattle.circuit.specs.SameCircuit.{SameCircuit}
use Rattle.circuit.proofs.Laws.SameCircuit.{same_inputs}
use Rattle.text.specs.Read.{circuit_read}
use Rattle.text.specs.TextFile.{TextFile, circuit_of}
use Rattle.text.specs.WellFormed.{WellFormed}
use Rattle.text.proofs.Laws.Exact.{taken_circuit}
use Rattle.text.proofs.Laws.GateOrder.{gate_lines_back}
use Rattle.text.proofs.Laws.InTurn.{in_turn, places_in_turn}
use Rattle.text.proofs.Laws.Sound.{sound}

files_equal : (f g : TextFile) → WellFormed base f → WellFormed base g → SameCircuit (circuit_of f) (circuit_of g) → circuit_of f ≡ circuit_of g
unfolding circuit_of
files_equal f g v w s =
    let inputs : (circuit_of f).inputs ≡ (circuit_of g).inputs =
    same_inputs (circuit_of f).inputs (circuit_of g).inputs s.lines.inputs s.controllable in
    let gates : f.gates ≡ g.gates = sym (gate_lines_back f v.no_circle) ∙ s.lines.gates ∙ gate_lines_back g w.no_circle in
    λ x. record {
      largest = s.header.largest x;
      inputs = inputs x;
      latches = s.lines.latches x;
      output = s.lines.output x;
      gates = in_turn (gates x);
      lines = places_in_turn (gates x);
    }

pub same_is_equal : (bytes others : List ℕ) (c d : Circuit) → circuit_read base bytes ≡ taken c → circuit_read base others ≡ taken d → SameCircuit c d → c ≡ d
same_is_equal bytes others c d e r same =
    let (f, t, few, is) = (taken_circuit base bytes c).0 e in
    let (g, u, fewer, are) = (taken_circuit base others d).0 r in
    sym is
    ∙ files_equal f g (sound base bytes f refl (omega arith) t).1 (sound base others g refl (omega arith) u).1
    (subst₂ (λ (x y : Circuit). SameCircuit x y) (sym is) (sym are) same)
    ∙ are
