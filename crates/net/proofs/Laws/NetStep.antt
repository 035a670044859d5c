-- The net's step is the circuit's step (01, "The game"): a circuit's variable and the one that it names are equal after each input, latch
-- and gate. A gate's own variable is behind all names given before it, so what it puts there changes none of them. Assumes nothing.
use Prim.Native.Nat.{ℕ, zero, suc, ◌+◌, ◌*◌, ◌/◌, ◌%◌, ◌^◌, ◌<◌, ◌≤◌}
use native.Mathlib.Omega.{arith}
use native.Mathlib.Decide.{dec_lt}
use native.Mathlib.Nat.{div-one}
use mathlib.Core.Bool.{Bool, true, false, cond, not, ◌&&◌}
use mathlib.Core.List.{List, [], ◌∷◌, map}
use mathlib.Core.Path.{◌≡◌, refl, sym, ap, ap₂, ◌∙◌}
use lib.Dec.{eqb, ltb}
use lib.ListN.{length, length-map}
use lib.Pow.{shr-shr}
use lib.Seq.{take_at, drop_at}
use borrow.Author.Tests.{eq-eqb, ne_eqb, lt-ltb, le-ltb}
use Rattle.bits.specs.Bit.{odd, one_if}
use Rattle.bits.specs.Digits.{sum}
use Rattle.circuit.specs.Circuit.{Circuit, Input, Latch, Gate, inputs_that, latch_count, uncontrollable_count, controllable_count}
use Rattle.circuit.specs.Literal.{variable, inverted, constant}
use Rattle.step.specs.Step.{step, error_of, next_of}
use Rattle.step.specs.Value.{Valuation, valuation, literal_value, put, with_inputs, with_latches, with_gates}
use Rattle.step.proofs.Laws.Truths.{one_if-bit}
use Rattle.step.proofs.Laws.Value.{value_constant, value_inverted, value_plain}
use Rattle.net.specs.Move.{move_of}
use Rattle.net.specs.Net.{net_controls, net_readings, net_latches, net_output, net_nexts, net_operands}
use Rattle.net.specs.Net.{move_bits, with_move, with_operands, net_values, net_error, net_next, net_step}
use Rattle.net.specs.NetOf.{Names, name, net_literal, name_inputs, name_latches, name_gates, operands_of, first_names, all_names, gate_start, net_of}
use Rattle.net.proofs.Laws.Move.{control_bit, reading_bit, state_bit, with_move_at, with_move_none}
use Rattle.net.proofs.Laws.Names.{Below, name_below, below_more, inputs_below, latches_below, gates_below}

-- a variable and the one that it names are equal, and what names none is false
record Named (val w : Valuation) (names : Names) : Type 0 where
  same : (v : ℕ) → val v ≡ w (names v)
  none : w 0 ≡ false

odd_double : (n : ℕ) (b : Bool) → odd (2 * n + one_if b) ≡ b
unfolding odd one_if
odd_double n true = ap (λ (m : ℕ). eqb m 1) {x = (2 * n + 1) % 2} {y = 1} (omega arith)
odd_double n false = ap (λ (m : ℕ). eqb m 1) {x = (2 * n + 0) % 2} {y = 0} (omega arith)

half_double : (n : ℕ) (b : Bool) → (2 * n + one_if b) / 2 ≡ n
half_double n b = omega (arith, one_if-bit b)

module _ (w : Valuation) (none : w 0 ≡ false) where
  -- a literal made of a variable and whether it is inverted
  made_value : (n : ℕ) (b : Bool) → literal_value w (2 * n + one_if b) ≡ cond b (not (w n)) (w n)
  unfolding one_if
  made_value zero true = value_constant w 1 (omega arith) ∙ odd_double 0 true ∙ sym (ap not none)
  made_value zero false = value_constant w 0 (omega arith) ∙ odd_double 0 false ∙ sym none
  made_value (suc n) true = value_inverted w (2 * suc n + 1) (omega arith) (odd_double (suc n) true) ∙ ap (λ (m : ℕ). not (w m)) (half_double (suc n) true)
  made_value (suc n) false = value_plain w (2 * suc n + 0) (omega arith) (odd_double (suc n) false) ∙ ap w (half_double (suc n) false)

-- a literal of the circuit and the net's one for it are equal
literal_same : (val w : Valuation) (names : Names) (l : ℕ) → Named val w names → literal_value w (net_literal names l) ≡ literal_value val l
unfolding net_literal constant inverted variable
literal_same val w names l named = elim (dec_lt l 2) [ yes h ↦ low h | no h ↦ by (odd l) refl (omega arith) ]
  where
    low : l < 2 → literal_value w (cond (ltb l 2) l (2 * names (l / 2) + one_if (odd l))) ≡ literal_value val l
    low h = rw (lt-ltb l 2 h) (value_constant w l h ∙ sym (value_constant val l h))

    by : (b : Bool) → odd l ≡ b → 2 ≤ l → literal_value w (cond (ltb l 2) l (2 * names (l / 2) + one_if (odd l))) ≡ literal_value val l
    by true e h = rw (le-ltb l 2 h, e) (made_value w named.none (names (l / 2)) true ∙ ap not (sym (named.same (l / 2))) ∙ sym (value_inverted val l h e))
    by false e h = rw (le-ltb l 2 h, e) (made_value w named.none (names (l / 2)) false ∙ sym (named.same (l / 2)) ∙ sym (value_plain val l h e))

-- an input or a latch: its bit stands in the net already
name-put : (val w : Valuation) (names : Names) (v n : ℕ) (b : Bool) → Named val w names → w n ≡ b → Named (put v b val) w (name v n names)
unfolding put name
name-put val w names v n b named e = record { same = λ u. by u (eqb u v); none = named.none }
  where
    by : (u : ℕ) (t : Bool) → cond t b (val u) ≡ w (cond t n (names u))
    by u true = sym e
    by u false = named.same u

halved : (n i : ℕ) → odd (n / 2 / 2 ^ i) ≡ odd (n / 2 ^ suc i)
halved n i = ap odd (shr-shr n 1 i ∙ ap (λ (m : ℕ). n / 2 ^ m) {x = 1 + i} {y = suc i} (omega arith))

whole-bit : (n : ℕ) → odd n ≡ odd (n / 2 ^ 0)
whole-bit n = ap odd (sym (div-one n))

-- the net's variables from v on hold the n lowest bits of a number
abbrev Holds : Valuation → (v n number : ℕ) → Type 0
Holds w v n number = (i : ℕ) → i < n → w (v + i) ≡ odd (number / 2 ^ i)

holds_first : (w : Valuation) (v n number : ℕ) → Holds w v (suc n) number → w v ≡ odd number
holds_first w v n number h = ap w {x = v} {y = v + 0} (omega arith) ∙ h 0 (omega arith) ∙ sym (whole-bit number)

holds_rest : (w : Valuation) (v n number : ℕ) → Holds w v (suc n) number → Holds w (suc v) n (number / 2)
holds_rest w v n number h i l = ap w {x = suc v + i} {y = v + suc i} (omega arith) ∙ h (suc i) (omega arith) ∙ sym (halved number i)

inputs_named : (w : Valuation) (is : List Input) (k r control reading : ℕ) (val : Valuation) (names : Names)
    → Holds w k (inputs_that (λ (i : Input). i.controllable) is) control → Holds w r (inputs_that (λ (i : Input). not i.controllable) is) reading
    → Named val w names → Named (with_inputs is reading control val) w (name_inputs is k r names)
unfolding with_inputs name_inputs inputs_that
inputs_named w [] k r control reading val names hk hr named = named
inputs_named w (i ∷ is) k r control reading val names hk hr named = by i.controllable hk hr (inputs_named w is)
  where
    v : ℕ
    v = variable i.own

    cs : ℕ
    cs = inputs_that (λ (i : Input). i.controllable) is

    us : ℕ
    us = inputs_that (λ (i : Input). not i.controllable) is

    by : (t : Bool) → Holds w k (cond t (suc cs) cs) control → Holds w r (cond (not t) (suc us) us) reading
        → ((k r control reading : ℕ) (val : Valuation) (names : Names) → Holds w k cs control → Holds w r us reading → Named val w names
        → Named (with_inputs is reading control val) w (name_inputs is k r names))
        → Named (cond t (with_inputs is reading (control / 2) (put v (odd control) val)) (with_inputs is (reading / 2) control (put v (odd reading) val))) w
        (cond t (name_inputs is (suc k) r (name v k names)) (name_inputs is k (suc r) (name v r names)))
    by true hk hr more = more (suc k) r (control / 2) reading _ _ (holds_rest w k cs control hk) hr
        (name-put val w names v k (odd control) named (holds_first w k cs control hk))
    by false hk hr more = more k (suc r) control (reading / 2) _ _ hk (holds_rest w r us reading hr)
        (name-put val w names v r (odd reading) named (holds_first w r us reading hr))

latches_named : (w : Valuation) (ls : List Latch) (v state : ℕ) (val : Valuation) (names : Names) → Holds w v (length ls) state → Named val w names
    → Named (with_latches ls state val) w (name_latches ls v names)
unfolding with_latches name_latches
latches_named w [] v state val names h named = named
latches_named w (l ∷ ls) v state val names h named = latches_named w ls (suc v) (state / 2) _ _ (holds_rest w v (length ls) state h)
    (name-put val w names (variable l.own) v (odd state) named (holds_first w v (length ls) state h))

-- a gate: both put the same truth, and the net where no name leads yet
gate_put : (val w : Valuation) (names : Names) (v n : ℕ) (b : Bool) → Named val w names → Below n names → Named (put v b val) (put n b w) (name v n names)
unfolding put name
gate_put val w names v n b named below = record {
  same = λ u. by u (eqb u v);
  none = rw (ne_eqb 0 n (λ (e : 0 ≡ n). absurd (omega (arith, below 0))))
      named.none;
}
  where
    away : (u : ℕ) → eqb (names u) n ≡ false
    away u = ne_eqb (names u) n (λ (e : names u ≡ n). absurd (omega (arith, below u)))

    by : (u : ℕ) (t : Bool) → cond t b (val u) ≡ cond (eqb (cond t n (names u)) n) b (w (cond t n (names u)))
    by u true = rw (eq-eqb n n refl)
    by u false = rw (away u) (named.same u)

gates_named : (gs : List Gate) (n : ℕ) (val w : Valuation) (names : Names) → Named val w names → Below n names
    → Named (with_gates gs val) (with_operands (operands_of gs n names) n w) (name_gates gs n names)
unfolding with_gates with_operands operands_of name_gates
gates_named [] n val w names named below = named
gates_named (g ∷ gs) n val w names named below =
    gates_named gs (suc n) _ _ _ one (name_below (suc n) (variable g.own) n names (below_more n (suc n) names below (omega arith)) (omega arith))
  where
    both : (literal_value w (net_literal names g.left) && literal_value w (net_literal names g.right)) ≡ (literal_value val g.left && literal_value val
        g.right)
    both = ap₂ {C = Bool} (λ a b. a && b) (literal_same val w names g.left named) (literal_same val w names g.right named)

    one : Named (put (variable g.own) (literal_value val g.left && literal_value val g.right) val)
        (put n (literal_value w (net_literal names g.left) && literal_value w (net_literal names g.right)) w) (name (variable g.own) n names)
    one = rw both (gate_put val w names (variable g.own) n (literal_value val g.left && literal_value val g.right) named below)

module _ (c : Circuit) where
  L : ℕ
  L = latch_count c

  U : ℕ
  U = uncontrollable_count c

  C : ℕ
  C = controllable_count c

  nexts : List ℕ
  nexts = map (λ (l : Latch). net_literal (all_names c) l.next) c.latches

  operands : List ℕ
  operands = operands_of c.gates (gate_start c) (first_names c)

  -- the parts of a circuit's net
  pub net_controls_lem : net_controls (net_of c) ≡ controllable_count c
  unfolding net_controls net_of
  net_controls_lem = refl

  pub net_readings_lem : net_readings (net_of c) ≡ uncontrollable_count c
  unfolding net_readings net_of
  net_readings_lem = refl

  pub net_latches_lem : net_latches (net_of c) ≡ latch_count c
  unfolding net_latches net_of
  net_latches_lem = refl

  pub net_output_lem : net_output (net_of c) ≡ net_literal (all_names c) c.output
  unfolding net_output net_of
  net_output_lem = refl

  pub net_move_bits : suc (move_bits (net_of c)) ≡ gate_start c
  unfolding move_bits net_of gate_start net_controls net_readings net_latches
  net_move_bits = omega arith

  pub net_nexts_lem : net_nexts (net_of c) ≡ map (λ (l : Latch). net_literal (all_names c) l.next) c.latches
  unfolding net_nexts net_of net_latches latch_count nexts operands
  net_nexts_lem = take_at nexts operands (length c.latches) (length-map c.latches (λ (l : Latch). net_literal (all_names c) l.next))

  pub net_operands_lem : net_operands (net_of c) ≡ operands_of c.gates (gate_start c) (first_names c)
  unfolding net_operands net_of net_latches latch_count nexts operands
  net_operands_lem = drop_at nexts operands (length c.latches) (length-map c.latches (λ (l : Latch). net_literal (all_names c) l.next))

  pub first_below : Below (gate_start c) (first_names c)
  unfolding first_names gate_start latch_count uncontrollable_count controllable_count
  first_below =
      latches_below (gate_start c) c.latches _ _ (omega arith)
      (inputs_below (gate_start c) c.inputs 1 _ (λ v. 0) (omega arith) (omega arith) (λ v. omega arith))

  pub all_below : Below (gate_start c + length c.gates) (all_names c)
  unfolding all_names
  all_below = gates_below c.gates (gate_start c) (first_names c) first_below

  module _ (s r k : ℕ) where
    move : ℕ
    move = move_of L U C s r k

    bits : Valuation
    bits = with_move (C + U + L) move

    controls_hold : Holds bits 1 (controllable_count c) k
    unfolding bits move L U C
    controls_hold i h = with_move_at (C + U + L) move (1 + i) i (omega arith) (omega arith) ∙ control_bit L U C s r k i h

    readings_hold : Holds bits (1 + controllable_count c) (uncontrollable_count c) r
    unfolding bits move L U C
    readings_hold i h = with_move_at (C + U + L) move (1 + C + i) (C + i) (omega arith) (omega arith) ∙ reading_bit L U C s r k i h

    state_holds : Holds bits (1 + controllable_count c + uncontrollable_count c) (latch_count c) s
    unfolding bits move L U C
    state_holds i h = with_move_at (C + U + L) move (1 + C + U + i) (C + (U + i)) (omega arith) (omega arith) ∙ state_bit L U C s r k i h

    first-named : Named (with_latches c.latches s (with_inputs c.inputs r k (λ v. false))) bits (first_names c)
    unfolding first_names latch_count uncontrollable_count controllable_count bits
    first-named =
        latches_named bits c.latches _ s _ _ state_holds
        (inputs_named bits c.inputs 1 _ k r (λ v. false) (λ v. 0) controls_hold readings_hold
        (record { same = λ v. sym (with_move_none (C + U + L) move); none = with_move_none (C + U + L) move }))

    values_are : net_values (net_of c) move ≡ with_operands (operands_of c.gates (gate_start c) (first_names c)) (gate_start c) bits
    unfolding net_values move_bits net_controls net_readings net_latches net_of bits L U C gate_start
    values_are = ap₂ {C = Valuation} (λ ops v. with_operands ops v bits) net_operands_lem net_move_bits

    named : Named (valuation c s r k) (net_values (net_of c) move) (all_names c)
    unfolding valuation all_names
    named = rw values_are (gates_named c.gates (gate_start c) _ bits (first_names c) first-named first_below)

    error_same : net_error (net_of c) (move_of (latch_count c) (uncontrollable_count c) (controllable_count c) s r k) ≡ error_of c s r k
    unfolding net_error error_of move L U C
    error_same = ap (literal_value (net_values (net_of c) move)) net_output_lem ∙ literal_same (valuation c s r k) (net_values (net_of c) move) (all_names c)
        c.output named

    next_bits : (ls : List Latch) → map (λ (l : ℕ). one_if (literal_value (net_values (net_of c) move) l))
        (map (λ (l : Latch). net_literal (all_names c) l.next) ls) ≡ map (λ (l : Latch). one_if (literal_value (valuation c s r k) l.next)) ls
    next_bits [] = refl
    next_bits (l ∷ ls) = ap₂ {C = List ℕ} (λ x xs. x ∷ xs)
        (ap one_if (literal_same (valuation c s r k) (net_values (net_of c) move) (all_names c) l.next named)) (next_bits ls)

    next_same : net_next (net_of c) (move_of (latch_count c) (uncontrollable_count c) (controllable_count c) s r k) ≡ next_of c s r k
    unfolding net_next next_of move L U C
    next_same = ap (λ (ls : List ℕ). sum 2 (map (λ (l : ℕ). one_if (literal_value (net_values (net_of c) move) l)) ls)) net_nexts_lem
        ∙ ap (sum 2) (next_bits c.latches)

    -- the net's step is the circuit's step
    pub net_step-is : net_step (net_of c) (move_of (latch_count c) (uncontrollable_count c) (controllable_count c) s r k) ≡ step c s r k
    unfolding net_step step
    net_step-is = λ x. record { error = error_same x; next = next_same x }
