-- The value of each variable and literal in a step (01, "The file", rules 3 and 4; "The game"): bit k of the state is latch k in line
-- order, bit k of the reading the k-th uncontrollable input, bit k of the control the k-th controllable one. Bits above a count aren't
-- read. Assumes nothing.
use Rattle.std.specs.Prelude.{ℕ, ◌/◌, Bool, false, cond, not, ◌&&◌, List, [], ◌∷◌, eqb}
use Rattle.bits.specs.Bit.{odd}
use Rattle.circuit.specs.Circuit.{Circuit, Input, Latch, Gate}
use Rattle.circuit.specs.Literal.{variable, inverted, constant}

-- a truth for each variable
abbrev pub Valuation : Type 0
Valuation = ℕ → Bool

-- 0 is false, 1 true; 2v means variable v and 2v + 1 its inverse
unfoldable pub literal_value : Valuation → ℕ → Bool
literal_value val l = cond (constant l) (inverted l) (cond (inverted l) (not (val (variable l))) (val (variable l)))

-- the valuation with another truth at one variable
unfoldable pub put : ℕ → Bool → Valuation → Valuation
put v b val = λ w. cond (eqb w v) b (val w)

unfoldable pub with_inputs : List Input → (reading control : ℕ) → Valuation → Valuation
with_inputs [] r k val = val
with_inputs (i ∷ is) r k val =
    cond i.controllable
    (with_inputs is r (k / 2) (put (variable i.own) (odd k) val))
    (with_inputs is (r / 2) k (put (variable i.own) (odd r) val))

unfoldable pub with_latches : List Latch → (state : ℕ) → Valuation → Valuation
with_latches [] s val = val
with_latches (l ∷ ls) s val = with_latches ls (s / 2) (put (variable l.own) (odd s) val)

-- each gate in line order: both operands are true
unfoldable pub with_gates : List Gate → Valuation → Valuation
with_gates [] val = val
with_gates (g ∷ gs) val =
    with_gates gs (put (variable g.own) (literal_value val g.left && literal_value val g.right) val)

unfoldable pub valuation : Circuit → (state reading control : ℕ) → Valuation
valuation c s r k = with_gates c.gates (with_latches c.latches s (with_inputs c.inputs r k (λ v. false)))
