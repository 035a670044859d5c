-- A net evaluated (01, "The file", rules 3 and 4), a truth for each literal, both of a variable at once. Nothing is tested: each list of
-- numbers means something, and for a net in order it is the net's step. Literals are looked up among the 2 × 1,024 there are truths for.
-- Assumes nothing.
use Rattle.std.specs.Prelude.{ℕ, suc, ◌*◌, ◌-◌, ◌%◌, min, Bool, cond, not, ◌&&◌, List, [], ◌∷◌, map, eqb, leb, take}
use Rattle.bits.specs.Bit.{one_if}
use Rattle.bits.specs.Digits.{sum}
use Rattle.circuit.specs.Limits.{base}
use Rattle.circuit.specs.Literal.{variable, inverted}
use Rattle.net.specs.InOrder.{variables}
use Rattle.net.specs.Net.{net_output, net_nexts, net_operands, move_bits, with_move}
use Rattle.step.specs.Value.{Valuation}
use Rattle.blocks.specs.Lane.{Truths}

-- how many literals there are truths for
abbrev pub literals : ℕ
literals = 2048

-- a variable's two literals
unfoldable pub put_both : (v : ℕ) → Bool → Truths → Truths
put_both v b lits = λ l. cond (eqb (variable l) v) (cond (inverted l) (not b) b) (lits l)

-- the truths of a valuation for the variables below n, and what was there for the others
unfoldable pub put_first : (n : ℕ) → Valuation → Truths → Truths
put_first n val lits = λ l. cond (leb n (variable l)) (lits l) (cond (inverted l) (not (val (variable l))) (val (variable l)))

-- gate after gate, the first of them variable v
unfoldable pub put_gates : List ℕ → (v : ℕ) → Truths → Truths
put_gates [] v lits = lits
put_gates (a ∷ []) v lits = lits
put_gates (a ∷ b ∷ rest) v lits = put_gates rest (suc v) (put_both v (lits (a % literals) && lits (b % literals)) lits)

-- the first variable of a gate
unfoldable pub first_gate : List ℕ → ℕ
first_gate net = min (suc (move_bits net)) variables

-- after the move and the gates that there are truths for, whatever was there before
unfoldable pub evaluated : List ℕ → (move : ℕ) → Truths → Truths
evaluated net move lits =
    put_gates (take (2 * (variables - first_gate net)) (net_operands net)) (first_gate net)
    (put_first (first_gate net) (with_move (move_bits net) move) lits)

-- the error and the next state that the truths say
unfoldable pub error_in : List ℕ → Truths → Bool
error_in net lits = lits (net_output net % literals)

unfoldable pub next_in : List ℕ → Truths → ℕ
next_in net lits = sum 2 (map (λ l. one_if (lits (l % literals))) (take base.latches (net_nexts net)))
