-- A net in order, evaluated, says the net's step, whatever the truths were before: each literal that is looked up was put before. Assumes
-- nothing.
use Prim.Native.Nat.{ℕ, zero, suc, ◌+◌, ◌*◌, ◌-◌, ◌/◌, ◌%◌, ◌<◌, ◌≤◌}
use native.Mathlib.Omega.{arith}
use native.Mathlib.Decide.{ℕ_discrete}
use mathlib.Core.Bool.{Bool, true, false, cond, not, ◌&&◌}
use mathlib.Core.List.{List, [], ◌∷◌, map}
use mathlib.Core.Logic.{◌≢◌}
use mathlib.Core.Path.{◌≡◌, refl, sym, ap, ap₂, ◌∙◌}
use lib.Dec.{eqb}
use lib.ListN.{length, take, drop, length-take}
use lib.Seq.{take_all}
use borrow.Author.Tests.{eq-eqb, ne_eqb, lt-leb}
use Rattle.bits.specs.Bit.{odd, one_if}
use Rattle.bits.specs.Digits.{sum}
use Rattle.circuit.specs.Limits.{base}
use Rattle.circuit.specs.Literal.{variable, inverted}
use Rattle.net.specs.InOrder.{InOrder, AllBefore, GatesInOrder, variables}
use Rattle.net.specs.Net.{net_output, net_nexts, net_operands, net_latches, move_bits, with_move, with_operands, net_values, net_error, net_next}
use Rattle.net.proofs.Laws.Move.{with_move_none}
use Rattle.step.specs.Value.{Valuation, literal_value, put}
use Rattle.step.proofs.Laws.Value.{value_constant, value_inverted, value_plain}
use Rattle.blocks.specs.Evaluated.{literals, put_both, put_first, put_gates, first_gate, evaluated, error_in, next_in}
use Rattle.blocks.specs.Lane.{Truths}

-- what a valuation says of a literal, without a test for constants
both : Valuation → ℕ → Bool
both val l = cond (inverted l) (not (val (variable l))) (val (variable l))

-- the constants are the literals of variable 0, which is false
both_means : (val : Valuation) (l : ℕ) → val 0 ≡ false → both val l ≡ literal_value val l
unfolding both inverted variable odd
both_means val zero e = e ∙ sym (value_constant val 0 (omega arith))
both_means val (suc zero) e = ap not e ∙ sym (value_constant val 1 (omega arith))
both_means val (suc (suc l)) e = by (odd (suc (suc l))) refl
  where
    by : (b : Bool) → odd (suc (suc l)) ≡ b → cond b (not (val (suc (suc l) / 2))) (val (suc (suc l) / 2)) ≡ literal_value val (suc (suc l))
    by true q = sym (value_inverted val (suc (suc l)) (omega arith) q)
    by false q = sym (value_plain val (suc (suc l)) (omega arith) q)

-- truths and valuation agree on the literals of the variables below v
record Agree (v : ℕ) (lits : Truths) (val : Valuation) : Type 0 where
  same : (l : ℕ) → l < 2 * v → lits l ≡ both val l
  none : val 0 ≡ false

agree_means : (v : ℕ) (lits : Truths) (val : Valuation) (l : ℕ) → Agree v lits val → l < 2 * v → lits l ≡ literal_value val l
agree_means v lits val l agree h = agree.same l h ∙ both_means val l agree.none

-- one gate more
agree-put : (v : ℕ) (lits : Truths) (val : Valuation) (b : Bool) → Agree v lits val → 1 ≤ v → Agree (suc v) (put_both v b lits) (put v b val)
unfolding put_both put both variable
agree-put v lits val b agree some = record {
  same = λ l h. elim (ℕ_discrete (l / 2) v) [ yes e ↦ here l e | no d ↦ there l d (omega arith) ];
  none = rw
      (ne_eqb 0 v (λ (e : 0 ≡ v). absurd (omega arith))) agree.none;
}
  where
    here : (l : ℕ) → l / 2 ≡ v → cond (eqb (l / 2) v) (cond (inverted l) (not b) b) (lits l) ≡ cond (inverted l)
        (not (cond (eqb (l / 2) v) b (val (l / 2)))) (cond (eqb (l / 2) v) b (val (l / 2)))
    here l e = rw (eq-eqb (l / 2) v e)

    there : (l : ℕ) → l / 2 ≢ v → l < 2 * v → cond (eqb (l / 2) v) (cond (inverted l) (not b) b) (lits l) ≡ cond (inverted l)
        (not (cond (eqb (l / 2) v) b (val (l / 2)))) (cond (eqb (l / 2) v) b (val (l / 2)))
    there l d h = rw (ne_eqb (l / 2) v d) (agree.same l h)

-- a list of gates in order ends behind its first, and is as long as its variables need
gates_end : (ops : List ℕ) (v end : ℕ) → GatesInOrder ops v end → v ≤ end
gates_end [] v end g = omega (arith, g)
gates_end (a ∷ []) v end g = absurd g
gates_end (a ∷ b ∷ rest) v end g = omega (arith, gates_end rest (suc v) end g.2)

gates_long : (ops : List ℕ) (v end : ℕ) → GatesInOrder ops v end → length ops + 2 * v ≡ 2 * end
gates_long [] v end g = omega (arith, g)
gates_long (a ∷ []) v end g = absurd g
gates_long (a ∷ b ∷ rest) v end g = omega (arith, gates_long rest (suc v) end g.2)

gates_agree : (ops : List ℕ) (v end : ℕ) (lits : Truths) (val : Valuation) → GatesInOrder ops v end → end ≤ variables → 1 ≤ v → Agree v lits val
    → Agree end (put_gates ops v lits) (with_operands ops v val)
unfolding put_gates with_operands
gates_agree [] v end lits val g few some agree = rw (sym g) agree
gates_agree (a ∷ []) v end lits val g few some agree = absurd g
gates_agree (a ∷ b ∷ rest) v end lits val g few some agree =
    gates_agree rest (suc v) end _ _ g.2 few (omega arith) (rw truth (agree-put v lits val (literal_value val a && literal_value val b) agree some))
  where
    most : suc v ≤ end
    most = gates_end rest (suc v) end g.2

    operand : (l : ℕ) → l < 2 * v → lits (l % literals) ≡ literal_value val l
    operand l h = ap lits {x = l % literals} {y = l} (omega (arith, most)) ∙ agree_means v lits val l agree h

    truth : (lits (a % literals) && lits (b % literals)) ≡ (literal_value val a && literal_value val b)
    truth = ap₂ {C = Bool} (λ x y. x && y) (operand a g.0) (operand b g.1)

module _ (net : List ℕ) (order : InOrder net) (move : ℕ) (lits : Truths) where
  within : suc (move_bits net) ≤ order.end
  within = gates_end (net_operands net) (suc (move_bits net)) order.end order.gates

  first : first_gate net ≡ suc (move_bits net)
  unfolding first_gate
  first = omega (arith, within, order.few)

  whole : take (2 * (variables - first_gate net)) (net_operands net) ≡ net_operands net
  whole = take_all (2 * (variables - first_gate net)) (net_operands net)
      (omega (arith, first, within, order.few, gates_long (net_operands net) (suc (move_bits net)) order.end order.gates))

  moved : Agree (suc (move_bits net)) (put_first (suc (move_bits net)) (with_move (move_bits net) move) lits) (with_move (move_bits net) move)
  unfolding put_first both variable
  moved = record { same = λ l h. rw (lt-leb (suc (move_bits net)) (l / 2) (omega arith)); none = with_move_none (move_bits net) move }

  agree : Agree order.end (evaluated net move lits) (net_values net move)
  unfolding evaluated net_values
  agree = rw (whole, first) (gates_agree (net_operands net) (suc (move_bits net)) order.end _ _ order.gates order.few (omega arith) moved)

  -- each literal before the end is what the net says of it
  pub evaluated-is : (l : ℕ) → l < 2 * order.end → evaluated net move lits l ≡ literal_value (net_values net move) l
  evaluated-is l h = agree_means order.end (evaluated net move lits) (net_values net move) l agree h

  looked_up : (l : ℕ) → l < 2 * order.end → evaluated net move lits (l % literals) ≡ literal_value (net_values net move) l
  looked_up l h = ap (evaluated net move lits) {x = l % literals} {y = l} (omega (arith, order.few)) ∙ evaluated-is l h

  -- the error and the next state are those of the net's step
  pub block_error : error_in net (evaluated net move lits) ≡ net_error net move
  unfolding error_in net_error
  block_error = looked_up (net_output net) order.output

  bits_same : (ls : List ℕ) → AllBefore order.end ls → map (λ (l : ℕ). one_if (evaluated net move lits (l % literals))) ls ≡ map
      (λ (l : ℕ). one_if (literal_value (net_values net move) l)) ls
  bits_same [] a = refl
  bits_same (l ∷ ls) a = ap₂ {C = List ℕ} (λ x xs. x ∷ xs) (ap one_if (looked_up l a.0)) (bits_same ls a.1)

  few_nexts : take base.latches (net_nexts net) ≡ net_nexts net
  unfolding net_nexts
  few_nexts = take_all base.latches (take (net_latches net) (drop 4 net)) (omega (arith, length-take (net_latches net) (drop 4 net), order.states))

  pub block_next : next_in net (evaluated net move lits) ≡ net_next net move
  unfolding next_in net_next
  block_next = ap (λ (ls : List ℕ). sum 2 (map (λ (l : ℕ). one_if (evaluated net move lits (l % literals))) ls)) few_nexts
      ∙ ap (sum 2) (bits_same (net_nexts net) order.nexts)
