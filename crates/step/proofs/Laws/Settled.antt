-- The valuation of a step is settled, of a circuit in order: each latch, input and gate has its value when its line is put, and no later line
-- changes it. Assumes nothing.
use Prim.Native.Nat.{ℕ, suc, ◌/◌}
use mathlib.Core.Bool.{Bool, true, false, cond, not, ◌&&◌}
use mathlib.Core.List.Memᴰ
use mathlib.Core.List.{List, [], ◌∷◌, ◌++◌, map, Memᴰ}
use mathlib.Core.Logic.{◌⊎◌, inl, inr}
use mathlib.Core.Path.{◌≡◌, sym, ap, ap₂, ◌∙◌, subst}
use lib.ListN.{length}
use Rattle.below.specs.Among.{member}
use Rattle.bits.specs.Bit.{bit, odd, one_if}
use Rattle.bits.proofs.Laws.Bit.{bit_zero, bit_suc}
use Rattle.circuit.specs.Circuit.{Circuit, Input, Latch, Gate, inputs_that}
use Rattle.step.specs.Defined.{input_variable, latch_variable, gate_variable, of_inputs_and_latches}
use Rattle.step.specs.Settled.{Settled}
use Rattle.step.specs.Value.{Valuation, literal_value, put, with_inputs, with_latches, with_gates, valuation}
use Rattle.step.proofs.Laws.Agree.{Agree, literals-agree, put_at_lem, put_agrees, inputs_agree, latches_agree, gates_agree}
use Rattle.step.proofs.Laws.InOrder.{Once, Operands, InOrder, once_append}
use Rattle.step.proofs.Laws.Truths.{one_if-odd}
use Rattle.step.proofs.Laws.Member.{member_left, member_right, member_last, named-member}

-- a variable that got the lowest bit of a number and is among those seen keeps it
kept-bit : (seen : List ℕ) (v n : ℕ) (val end : Valuation) → Agree (seen ++ (v ∷ [])) end (put v (odd n) val) → one_if (end v) ≡ bit n 0
kept-bit seen v n val end w = ap one_if (w v (member_last v seen) ∙ put_at_lem v (odd n) val) ∙ one_if-odd n ∙ sym (bit_zero n)

-- a latch, when all latches are put
latch_has :
    (seen : List ℕ) (above below : List Latch) (l : Latch) (s : ℕ) (val : Valuation) →
    Once seen (map latch_variable (above ++ (l ∷ below))) →
    one_if (with_latches (above ++ (l ∷ below)) s val (latch_variable l)) ≡ bit s (length above)
unfolding with_latches
latch_has seen [] below l s val o = kept-bit seen (latch_variable l) s val _ (latches_agree (seen ++ (latch_variable l ∷ [])) below (s / 2) _ o.1)
latch_has seen (a ∷ above) below l s val o =
    latch_has (seen ++ (latch_variable a ∷ [])) above below l (s / 2) _ o.1 ∙ sym (bit_suc s (length above))

-- whether an input is controllable, or uncontrollable
of_sort : Bool → Input → Bool
of_sort t i = cond t i.controllable (not i.controllable)

-- an input, when all inputs are put: controllable with a bit of the control, or not with a bit of the reading
input_has :
    (seen : List ℕ) (above below : List Input) (i : Input) (t : Bool) (r k : ℕ) (val : Valuation) →
    i.controllable ≡ t → Once seen (map input_variable (above ++ (i ∷ below))) →
    one_if (with_inputs (above ++ (i ∷ below)) r k val (input_variable i)) ≡ bit (cond t k r) (inputs_that (of_sort t) above)
unfolding with_inputs inputs_that of_sort
input_has seen [] below i t r k val e o = rw e (by t)
  where
    v : ℕ
    v = input_variable i

    kept : (p q : ℕ) (u : Valuation) → Agree (seen ++ (v ∷ [])) (with_inputs below p q u) u
    kept p q u = inputs_agree (seen ++ (v ∷ [])) below p q u o.1

    by : (b : Bool) → one_if (cond b (with_inputs below r (k / 2) (put v (odd k) val)) (with_inputs below (r / 2) k (put v (odd r) val)) v) ≡ bit (cond b k r) 0
    by true = kept-bit seen v k val _ (kept r (k / 2) _)
    by false = kept-bit seen v r val _ (kept (r / 2) k _)
input_has seen (a ∷ above) below i t r k val e o =
    by a.controllable t (inputs_that (of_sort t) above) (λ p q u. input_has (seen ++ (input_variable a ∷ [])) above below i t p q u e o.1)
  where
    is : List Input
    is = above ++ (i ∷ below)

    after : Bool → Valuation
    after b = put (input_variable a) b val

    by :
        (b t : Bool) (n : ℕ) → ((p q : ℕ) (u : Valuation) → one_if (with_inputs is p q u (input_variable i)) ≡ bit (cond t q p) n) →
        one_if (cond b (with_inputs is r (k / 2) (after (odd k))) (with_inputs is (r / 2) k (after (odd r))) (input_variable i))
        ≡ bit (cond t k r) (cond (cond t b (not b)) (suc n) n)
    by true true n ih = ih r (k / 2) _ ∙ sym (bit_suc k n)
    by true false n ih = ih r (k / 2) _
    by false true n ih = ih (r / 2) k _
    by false false n ih = ih (r / 2) k _ ∙ sym (bit_suc r n)

pub both : Valuation → Gate → Bool
both val g = literal_value val g.left && literal_value val g.right

-- a gate, when all gates are put
pub gate_has :
    (seen : List ℕ) (gs : List Gate) (val : Valuation) → Once seen (map gate_variable gs) → Operands seen gs →
    (g : Gate) → Memᴰ g gs → with_gates gs val (gate_variable g) ≡ both (with_gates gs val) g
unfolding with_gates both
gate_has seen [] val o p g m = absurd (Memᴰ.not-nil m)
gate_has seen (h ∷ gs) val o p g m = by (Memᴰ.cases_cons m) (gate_has (seen ++ (v ∷ [])) gs next o.1 p.2 g)
  where
    v : ℕ
    v = gate_variable h

    next : Valuation
    next = put v (both val h) val

    end : Valuation
    end = with_gates gs next

    kept : Agree (seen ++ (v ∷ [])) end next
    kept = gates_agree (seen ++ (v ∷ [])) gs next o.1

    same : Agree seen end val
    same = put_agrees seen v (both val h) val end o.0 kept

    operands : both end h ≡ both val h
    operands = ap₂ ◌&&◌ (literals-agree seen end val same h.left p.0) (literals-agree seen end val same h.right p.1)

    here : end v ≡ both end h
    here = kept v (member_last v seen) ∙ put_at_lem v (both val h) val ∙ sym operands

    by : (g ≡ h) ⊎ Memᴰ g gs → (Memᴰ g gs → end (gate_variable g) ≡ both end g) → end (gate_variable g) ≡ both end g
    by (inl e) ih = rw e here
    by (inr n) ih = ih n

module _ (c : Circuit) (order : InOrder c) (s r k : ℕ) where
  abbrev none : Valuation
  none = λ v. false

  abbrev inputs : Valuation
  inputs = with_inputs c.inputs r k none

  abbrev latches : Valuation
  latches = with_latches c.latches s inputs

  abbrev end : Valuation
  end = with_gates c.gates latches

  abbrev ins : List ℕ
  ins = map input_variable c.inputs

  abbrev lats : List ℕ
  lats = map latch_variable c.latches

  gates_once : Once [] (ins ++ lats) × Once (ins ++ lats) (map gate_variable c.gates)
  gates_once = once_append [] (ins ++ lats) (map gate_variable c.gates) order.once

  latches_once : Once [] ins × Once ins lats
  latches_once = once_append [] ins lats gates_once.0

  gates_keep : Agree (ins ++ lats) end latches
  gates_keep = gates_agree (ins ++ lats) c.gates latches gates_once.1

  latches_keep : Agree ins latches inputs
  latches_keep = latches_agree ins c.latches s inputs latches_once.1

  module _ (above below : List Latch) (l : Latch) (e : c.latches ≡ above ++ (l ∷ below)) where
    latch_kept : end (latch_variable l) ≡ latches (latch_variable l)
    latch_kept = gates_keep v (member_right v ins lats m)
      where
        v : ℕ
        v = latch_variable l

        m : member v lats ≡ true
        m = subst (λ (ls : List Latch). member v (map latch_variable ls) ≡ true) (sym e) (named-member latch_variable above below l)

    latch_settled : one_if (end (latch_variable l)) ≡ bit s (length above)
    latch_settled = ap one_if latch_kept ∙ subst Has (sym e) (latch_has ins above below l s inputs) latches_once.1
      where
        Has : List Latch → Type 0
        Has ls = Once ins (map latch_variable ls) → one_if (with_latches ls s inputs (latch_variable l)) ≡ bit s (length above)

  module _ (above below : List Input) (i : Input) (e : c.inputs ≡ above ++ (i ∷ below)) where
    input_kept : end (input_variable i) ≡ inputs (input_variable i)
    input_kept = gates_keep v (member_left v ins lats m) ∙ latches_keep v m
      where
        v : ℕ
        v = input_variable i

        m : member v ins ≡ true
        m = subst (λ (is : List Input). member v (map input_variable is) ≡ true) (sym e) (named-member input_variable above below i)

    input_settled : (t : Bool) → i.controllable ≡ t → one_if (end (input_variable i)) ≡ bit (cond t k r) (inputs_that (of_sort t) above)
    input_settled t f = ap one_if input_kept ∙ subst Has (sym e) (input_has [] above below i t r k none f) latches_once.0
      where
        Has : List Input → Type 0
        Has is = Once [] (map input_variable is) → one_if (with_inputs is r k none (input_variable i)) ≡ bit (cond t k r) (inputs_that (of_sort t) above)

  -- the valuation of a step is settled
  pub valuation_settled : Settled c s r k (valuation c s r k)
  unfolding valuation of_sort both
  valuation_settled =
      record {
        latches = latch_settled;
        uncontrollable = λ above below i e. input_settled above below i e false;
        controllable = λ above below i e. input_settled above below i e true;
        gates = gate_has (of_inputs_and_latches c) c.gates latches gates_once.1 order.operands;
      }
