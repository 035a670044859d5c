-- What holds of names: each is below the next variable, so each literal names one that stands before it. Assumes nothing.
use Prim.Native.Nat.{ℕ, suc, ◌+◌, ◌*◌, ◌/◌, ◌%◌, ◌<◌, ◌≤◌}
use native.Mathlib.Omega.{arith}
use native.Mathlib.Decide.{dec_lt}
use mathlib.Core.Bool.{Bool, true, false, cond, not}
use mathlib.Core.List.{List, [], ◌∷◌, map}
use mathlib.Core.Path.{◌≡◌, ap}
use lib.Dec.{eqb, ltb}
use lib.ListN.{length}
use borrow.Author.Tests.{lt-ltb, le-ltb}
use Rattle.bits.specs.Bit.{one_if}
use Rattle.circuit.specs.Circuit.{Input, Latch, Gate, inputs_that}
use Rattle.circuit.specs.Literal.{variable, inverted, constant}
use Rattle.step.proofs.Laws.Truths.{one_if-bit, one_if-odd}
use Rattle.net.specs.InOrder.{AllBefore, GatesInOrder}
use Rattle.net.specs.NetOf.{Names, name, net_literal, name_inputs, name_latches, name_gates, operands_of}

-- each name is a variable before n
abbrev pub Below : ℕ → Names → Type 0
Below n names = (v : ℕ) → names v < n

pub name_below : (n v w : ℕ) (names : Names) → Below n names → w < n → Below n (name v w names)
unfolding name
name_below n v w names b h u = by (eqb u v)
  where
    by : (t : Bool) → cond t w (names u) < n
    by true = h
    by false = b u

pub below_more : (n m : ℕ) (names : Names) → Below n names → n ≤ m → Below m names
below_more n m names b h v = omega (arith, b v)

pub inputs_below : (n : ℕ) (is : List Input) (k r : ℕ) (names : Names) → k + inputs_that (λ (i : Input). i.controllable) is ≤ n
    → r + inputs_that (λ (i : Input). not i.controllable) is ≤ n → Below n names → Below n (name_inputs is k r names)
unfolding name_inputs inputs_that
inputs_below n [] k r names h g b = b
inputs_below n (i ∷ is) k r names h g b = by i.controllable h g (inputs_below n is)
  where
    cs : ℕ
    cs = inputs_that (λ (i : Input). i.controllable) is

    us : ℕ
    us = inputs_that (λ (i : Input). not i.controllable) is

    by : (t : Bool) → k + cond t (suc cs) cs ≤ n → r + cond (not t) (suc us) us ≤ n → ((k r : ℕ) (names : Names) → k + cs ≤ n → r + us ≤ n → Below n names
        → Below n (name_inputs is k r names))
        → Below n (cond t (name_inputs is (suc k) r (name (variable i.own) k names)) (name_inputs is k (suc r) (name (variable i.own) r names)))
    by true h g more = more (suc k) r _ (omega arith) g (name_below n (variable i.own) k names b (omega arith))
    by false h g more = more k (suc r) _ h (omega arith) (name_below n (variable i.own) r names b (omega arith))

pub latches_below : (n : ℕ) (ls : List Latch) (v : ℕ) (names : Names) → v + length ls ≤ n → Below n names → Below n (name_latches ls v names)
unfolding name_latches
latches_below n [] v names h b = b
latches_below n (l ∷ ls) v names h b = latches_below n ls (suc v) _ (omega arith) (name_below n (variable l.own) v names b (omega arith))

pub gates_below : (gs : List Gate) (v : ℕ) (names : Names) → Below v names → Below (v + length gs) (name_gates gs v names)
unfolding name_gates
gates_below [] v names b = below_more v (v + 0) names b (omega arith)
gates_below (g ∷ gs) v names b =
    below_more (suc v + length gs) (v + suc (length gs)) _
    (gates_below gs (suc v) _ (name_below (suc v) (variable g.own) v names (below_more v (suc v) names b (omega arith)) (omega arith)))
    (omega arith)

-- a literal of the circuit as the net has it
pub literal_constant : (names : Names) (l : ℕ) → l < 2 → net_literal names l ≡ l
unfolding net_literal constant
literal_constant names l h = rw (lt-ltb l 2 h)

pub literal_made : (names : Names) (l : ℕ) → 2 ≤ l → net_literal names l ≡ 2 * names (l / 2) + l % 2
unfolding net_literal constant variable inverted
literal_made names l h = rw (le-ltb l 2 h) (ap (λ (m : ℕ). 2 * names (l / 2) + m) (one_if-odd l))

-- a literal names a variable that stands before n
pub literal_before : (n l : ℕ) (names : Names) → Below n names → net_literal names l < 2 * n
unfolding net_literal constant
literal_before n l names b = elim (dec_lt l 2) [ yes h ↦ low h | no h ↦ other (omega arith) ]
  where
    some : 1 ≤ n
    some = omega (arith, b 0)

    low : l < 2 → cond (ltb l 2) l (2 * names (variable l) + one_if (inverted l)) < 2 * n
    low h = rw (lt-ltb l 2 h) (omega (arith, some))

    other : 2 ≤ l → cond (ltb l 2) l (2 * names (variable l) + one_if (inverted l)) < 2 * n
    other h = rw (le-ltb l 2 h) (omega (arith, b (variable l), one_if-bit (inverted l)))

pub operands_in_order : (gs : List Gate) (v end : ℕ) (names : Names) → Below v names → v + length gs ≡ end → GatesInOrder (operands_of gs v names) v end
unfolding operands_of
operands_in_order [] v end names b e = omega arith
operands_in_order (g ∷ gs) v end names b e = (
  literal_before v g.left names b,
  literal_before v g.right names b,
  operands_in_order gs (suc v) end _ (name_below (suc v) (variable g.own) v names (below_more v (suc v) names b (omega arith)) (omega arith)) (omega arith),
)

pub nexts_before : (n : ℕ) (names : Names) (ls : List Latch) → Below n names → AllBefore n (map (λ (l : Latch). net_literal names l.next) ls)
nexts_before n names [] b = tt
nexts_before n names (l ∷ ls) b = (literal_before n l.next names b, nexts_before n names ls b)
