-- Settled valuations agree where a circuit in order defines something; so a step's error and next state are what any of them says. Assumes nothing.
use Prim.Native.Nat.{ℕ, ◌+◌, ◌*◌}
use mathlib.Core.Bool.{Bool, true, false, ◌&&◌}
use mathlib.Core.List.{List, [], ◌∷◌, ◌++◌, map, append-nil, append_assoc, Memᴰ}
use mathlib.Core.Path.{◌≡◌, refl, sym, ap, ap₂, ◌∙◌, subst}
use lib.Dec.{eqb}
use Rattle.bits.specs.Bit.{one_if}
use Rattle.bits.specs.Digits.{sum}
use Rattle.bits.proofs.Laws.Bit.{is_one}
use Rattle.circuit.specs.Circuit.{Circuit, Latch, Gate}
use Rattle.step.specs.Defined.{input_variable, latch_variable, gate_variable, of_inputs_and_latches, defined_by}
use Rattle.step.specs.NextIn.{next_in}
use Rattle.step.specs.Settled.{Settled}
use Rattle.step.specs.Step.{error_of, next_of}
use Rattle.step.specs.Value.{Valuation, literal_value, valuation}
use Rattle.step.proofs.Laws.Agree.{Agree, agree_append, literals-agree}
use Rattle.step.proofs.Laws.InOrder.{Operands, Nexts, InOrder}
use Rattle.step.proofs.Laws.Member.{Named, member_one, member-named}
use Rattle.step.proofs.Laws.Settled.{valuation_settled}

same_truth : (a b : Bool) → one_if a ≡ one_if b → a ≡ b
same_truth a b e = sym (is_one a) ∙ ap (λ (n : ℕ). eqb n 1) e ∙ is_one b

module _ (c : Circuit) (s r k : ℕ) (a b : Valuation) (x : Settled c s r k a) (y : Settled c s r k b) where
  inputs_same : Agree (map input_variable c.inputs) a b
  inputs_same v m = subst (λ (w : ℕ). a w ≡ b w) n.is (same_truth _ _ (by n.it.controllable refl))
    where
      n : Named input_variable c.inputs v
      n = member-named input_variable c.inputs v m

      by : (t : Bool) → n.it.controllable ≡ t → one_if (a (input_variable n.it)) ≡ one_if (b (input_variable n.it))
      by true e = x.controllable n.above n.below n.it n.stands e ∙ sym (y.controllable n.above n.below n.it n.stands e)
      by false e = x.uncontrollable n.above n.below n.it n.stands e ∙ sym (y.uncontrollable n.above n.below n.it n.stands e)

  latches_same : Agree (map latch_variable c.latches) a b
  latches_same v m = subst (λ (w : ℕ). a w ≡ b w) n.is (same_truth _ _ bits)
    where
      n : Named latch_variable c.latches v
      n = member-named latch_variable c.latches v m

      bits : one_if (a (latch_variable n.it)) ≡ one_if (b (latch_variable n.it))
      bits = x.latches n.above n.below n.it n.stands ∙ sym (y.latches n.above n.below n.it n.stands)

  -- gate by gate, in line order
  gates_same :
      (above : List ℕ) (gs : List Gate) → ((g : Gate) → Memᴰ g gs → Memᴰ g c.gates) →
      Operands above gs → Agree above a b → Agree (above ++ map gate_variable gs) a b
  gates_same above [] i o w = subst (λ (l : List ℕ). Agree l a b) (sym (append-nil above)) w
  gates_same above (g ∷ gs) i o w =
      subst (λ (l : List ℕ). Agree l a b) (append_assoc above (v ∷ []) (map gate_variable gs))
      (gates_same (above ++ (v ∷ [])) gs (λ h m. i h (Memᴰ.tail m)) o.2 (agree_append above (v ∷ []) a b w one))
    where
      v : ℕ
      v = gate_variable g

      operands : (literal_value a g.left && literal_value a g.right) ≡ (literal_value b g.left && literal_value b g.right)
      operands = ap₂ ◌&&◌ (literals-agree above a b w g.left o.0) (literals-agree above a b w g.right o.1)

      here : a v ≡ b v
      here = x.gates g (i g (Memᴰ.head refl)) ∙ operands ∙ sym (y.gates g (i g (Memᴰ.head refl)))

      one : Agree (v ∷ []) a b
      one u m = subst (λ (z : ℕ). a z ≡ b z) (sym (member_one u v m)) here

  pub settled_agree : InOrder c → Agree (defined_by c) a b
  settled_agree order = gates_same (of_inputs_and_latches c) c.gates (λ g m. m) order.operands (agree_append _ _ a b inputs_same latches_same)

nexts_same : (defined : List ℕ) (ls : List Latch) (a b : Valuation) → Agree defined a b → Nexts defined ls → next_in a ls ≡ next_in b ls
unfolding next_in sum
nexts_same defined [] a b w n = refl
nexts_same defined (l ∷ ls) a b w n =
    ap₂ (λ (p q : ℕ). p + 2 * q) (ap one_if (literals-agree defined a b w l.next n.0)) (nexts_same defined ls a b w n.1)

-- a step, by any settled valuation
module _ (c : Circuit) (order : InOrder c) (s r k : ℕ) (val : Valuation) (x : Settled c s r k val) where
  step_agrees : Agree (defined_by c) (valuation c s r k) val
  step_agrees = settled_agree c s r k (valuation c s r k) val (valuation_settled c order s r k) x order

  pub error_settled : error_of c s r k ≡ literal_value val c.output
  unfolding error_of
  error_settled = literals-agree (defined_by c) (valuation c s r k) val step_agrees c.output order.error

  pub next_settled : next_of c s r k ≡ next_in val c.latches
  unfolding next_of next_in
  next_settled = nexts_same (defined_by c) c.latches (valuation c s r k) val step_agrees order.nexts
