-- Valuations that agree at some variables: literals of these have one value, and lines that define others change nothing at them. Assumes nothing.
use Prim.Native.Nat.{ℕ, ◌/◌}
use mathlib.Core.Bool.{Bool, true, false, cond, true≢false}
use mathlib.Core.List.{List, [], ◌∷◌, ◌++◌, map}
use mathlib.Core.Logic.{◌⊎◌, inl, inr}
use mathlib.Core.Path.{◌≡◌, refl, sym, ap, ◌∙◌}
use borrow.Author.Tests.{lt-ltb, eq-eqb, ne_eqb}
use Rattle.below.specs.Among.{member}
use Rattle.bits.specs.Bit.{odd}
use Rattle.circuit.specs.Circuit.{Input, Latch, Gate}
use Rattle.circuit.specs.Literal.{variable, constant}
use Rattle.step.specs.Defined.{input_variable, latch_variable, gate_variable}
use Rattle.step.specs.Value.{Valuation, literal_value, put, with_inputs, with_latches, with_gates}
use Rattle.step.proofs.Laws.InOrder.{Once, Known}
use Rattle.step.proofs.Laws.Member.{member_left, member_cases}

abbrev pub Agree : List ℕ → Valuation → Valuation → Type 0
Agree vs a b = (v : ℕ) → member v vs ≡ true → a v ≡ b v

pub agree_append : (vs ws : List ℕ) (a b : Valuation) → Agree vs a b → Agree ws a b → Agree (vs ++ ws) a b
agree_append vs ws a b p q v m = by (member_cases v vs ws m)
  where
    by : (member v vs ≡ true) ⊎ (member v ws ≡ true) → a v ≡ b v
    by (inl n) = p v n
    by (inr n) = q v n

pub literals-agree : (vs : List ℕ) (a b : Valuation) → Agree vs a b → (l : ℕ) → Known vs l → literal_value a l ≡ literal_value b l
unfolding literal_value constant
literals-agree vs a b w l (inl h) = rw (lt-ltb l 2 h)
literals-agree vs a b w l (inr m) = rw (w (variable l) m)

pub put_at_lem : (v : ℕ) (t : Bool) (val : Valuation) → put v t val v ≡ t
unfolding put
put_at_lem v t val = rw (eq-eqb v v refl)

-- a truth put at a variable that isn't seen: what agrees with the valuation after it agrees, at those seen, with the one before
pub put_agrees :
    (seen : List ℕ) (u : ℕ) (t : Bool) (val end : Valuation) →
    member u seen ≡ false → Agree (seen ++ (u ∷ [])) end (put u t val) → Agree seen end val
unfolding put
put_agrees seen u t val end f w v m = w v (member_left v seen (u ∷ []) m) ∙ rw (ne_eqb v u (λ e. true≢false (sym m ∙ ap (λ (x : ℕ). member x seen) e ∙ f)))

pub inputs_agree : (seen : List ℕ) (is : List Input) (r k : ℕ) (val : Valuation) → Once seen (map input_variable is) → Agree seen (with_inputs is r k val) val
unfolding with_inputs
inputs_agree seen [] r k val o = λ v m. refl
inputs_agree seen (i ∷ is) r k val o = by i.controllable (inputs_agree (seen ++ (input_variable i ∷ [])) is)
  where
    more : List ℕ
    more = seen ++ (input_variable i ∷ [])

    after : Bool → Valuation
    after t = put (input_variable i) t val

    by :
        (t : Bool) → ((p q : ℕ) (v : Valuation) → Once more (map input_variable is) → Agree more (with_inputs is p q v) v) →
        Agree seen (cond t (with_inputs is r (k / 2) (after (odd k))) (with_inputs is (r / 2) k (after (odd r)))) val
    by true ih = put_agrees seen (input_variable i) (odd k) val _ o.0 (ih r (k / 2) (after (odd k)) o.1)
    by false ih = put_agrees seen (input_variable i) (odd r) val _ o.0 (ih (r / 2) k (after (odd r)) o.1)

pub latches_agree : (seen : List ℕ) (ls : List Latch) (s : ℕ) (val : Valuation) → Once seen (map latch_variable ls) → Agree seen (with_latches ls s val) val
unfolding with_latches
latches_agree seen [] s val o = λ v m. refl
latches_agree seen (l ∷ ls) s val o =
    put_agrees seen (latch_variable l) (odd s) val _ o.0 (latches_agree (seen ++ (latch_variable l ∷ [])) ls (s / 2) _ o.1)

pub gates_agree : (seen : List ℕ) (gs : List Gate) (val : Valuation) → Once seen (map gate_variable gs) → Agree seen (with_gates gs val) val
unfolding with_gates
gates_agree seen [] val o = λ v m. refl
gates_agree seen (g ∷ gs) val o = put_agrees seen (gate_variable g) _ val _ o.0 (gates_agree (seen ++ (gate_variable g ∷ [])) gs _ o.1)
