-- A circuit is the same circuit as itself. Assumes nothing.
use mathlib.Core.Path.{◌≡◌, refl, subst}
use mathlib.Core.List.{List, [], ◌∷◌, map}
use Rattle.circuit.specs.Circuit.{Circuit, Input}
use Rattle.circuit.specs.SameCircuit.{SameCircuit}

-- inputs with the same literals and flags are the same inputs
pub same_inputs : (is js : List Input) → map (λ (i : Input). i.own) is ≡ map (λ (i : Input). i.own) js
    → map (λ (i : Input). i.controllable) is ≡ map (λ (i : Input). i.controllable) js → is ≡ js
same_inputs [] [] e f = refl
same_inputs [] (j ∷ js) e f = cc
same_inputs (i ∷ is) [] e f = cc
same_inputs (i ∷ is) (j ∷ js) e f =
    let own : i.own ≡ j.own = cc in
    let flag : i.controllable ≡ j.controllable = cc in
    let owns : map (λ (k : Input). k.own) is ≡ map (λ (k : Input). k.own) js = cc in
    let flags : map (λ (k : Input). k.controllable) is ≡ map (λ (k : Input). k.controllable) js = cc in
    let rest : is ≡ js = same_inputs is js owns flags in
    λ x. record { own = own x; controllable = flag x } ∷ rest x

pub equal_is_same : (c d : Circuit) → c ≡ d → SameCircuit c d
equal_is_same c d e = subst (SameCircuit c) e (record {
  header = record { largest = refl; inputs = refl; latches = refl; gates = refl };
  lines =
      record { inputs = refl; latches = refl; output = refl; gates = refl };
  controllable = refl;
})
