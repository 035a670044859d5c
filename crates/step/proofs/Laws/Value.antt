-- What holds of valuations: literals of one, and inputs, latches and gates put one by one. Assumes nothing.
use Prim.Native.Nat.{ℕ, ◌+◌, ◌/◌, ◌<◌, ◌≤◌, min}
use native.Mathlib.Omega.{arith}
use native.Mathlib.Numerals.{add-one}
use mathlib.Core.Bool.{Bool, true, false, cond, beq, not, ◌&&◌}
use mathlib.Core.List.{List}
use mathlib.Core.Path.{◌≡◌, refl, ap}
use lib.Dec.{eqb}
use lib.ListN.{length, get_or, take, drop, length-take}
use lib.Seq.{get_or-take}
use borrow.Author.Tests.{lt-ltb, le-ltb}
use Rattle.below.proofs.Laws.Table.{drop_table, drop_table_all}
use Rattle.bits.specs.Bit.{odd}
use Rattle.circuit.specs.Circuit.{Input, Latch, Gate}
use Rattle.circuit.specs.Limits.{base}
use Rattle.circuit.specs.Literal.{variable, inverted, constant}
use Rattle.circuit.specs.Stored.{literal_of, inputs_of, latches_of, gates_of, lent, on_lines, meant_lent}
use Rattle.circuit.specs.declared.lent.Lent.{Lent}
use Rattle.step.specs.Value.{Valuation, literal_value, put, with_inputs, with_latches, with_gates}

module _ (val : Valuation) (l : ℕ) where
  pub value_constant : l < 2 → literal_value val l ≡ odd l
  unfolding literal_value constant inverted
  value_constant h = rw (lt-ltb l 2 h)

  pub value_inverted : 2 ≤ l → odd l ≡ true → literal_value val l ≡ not (val (l / 2))
  unfolding literal_value constant inverted variable
  value_inverted h e = rw (le-ltb l 2 h, e)

  pub value_plain : 2 ≤ l → odd l ≡ false → literal_value val l ≡ val (l / 2)
  unfolding literal_value constant inverted variable
  value_plain h e = rw (le-ltb l 2 h, e)

  pub value_other : 2 ≤ l → literal_value val l ≡ not (beq (val (l / 2)) (odd l))
  unfolding literal_value constant inverted variable
  value_other h = rw (le-ltb l 2 h) (by (val (l / 2)) (odd l))
    where
      by : (t b : Bool) → cond b (not t) t ≡ not (beq t b)
      by true true = refl
      by true false = refl
      by false true = refl
      by false false = refl

module _ (c : Lent) where
  input_at : ℕ → Input
  input_at i = record { own = literal_of (get_or c.input.now i 0); controllable = not (eqb (get_or c.controllable.now i 0) 0) }

  -- an input takes the next bit of the control or of the reading
  pub inputs_next : (i r k : ℕ) (val : Valuation) → i < length c.input.now
      → with_inputs (drop i (meant_lent c).inputs) r k val
      ≡ cond (not (eqb (get_or c.controllable.now i 0) 0))
      (with_inputs (drop (i + 1) (meant_lent c).inputs) r (k / 2) (put (variable (literal_of (get_or c.input.now i 0))) (odd k) val))
      (with_inputs (drop (i + 1) (meant_lent c).inputs) (r / 2) k (put (variable (literal_of (get_or c.input.now i 0))) (odd r) val))
  unfolding meant_lent on_lines lent inputs_of input_at with_inputs
  inputs_next i r k val h =
      rw add-one (ap (λ (is : List Input). with_inputs is r k val) (drop_table input_at (length c.input.now) i h))

  pub inputs_end : (i r k : ℕ) (val : Valuation) → length c.input.now ≤ i → with_inputs (drop i (meant_lent c).inputs) r k val ≡ val
  unfolding meant_lent on_lines lent inputs_of input_at with_inputs
  inputs_end i r k val h = ap (λ (is : List Input). with_inputs is r k val) (drop_table_all input_at (length c.input.now) i h)

  latch_at : ℕ → Latch
  latch_at i = record { own = literal_of (get_or c.latch.now i 0); next = literal_of (get_or c.next.now i 0) }

  -- a latch takes the next bit of the state
  pub latches_next : (i s : ℕ) (val : Valuation) → i < length (take base.latches c.latch.now)
      → with_latches (drop i (meant_lent c).latches) s val
      ≡ with_latches (drop (i + 1) (meant_lent c).latches) (s / 2)
      (put (variable (literal_of (get_or (take base.latches c.latch.now) i 0))) (odd s) val)
  unfolding meant_lent on_lines lent latches_of latch_at with_latches
  latches_next i s val h =
      rw (add-one, get_or-take base.latches c.latch.now i 0 (omega (arith, length-take base.latches c.latch.now)))
      (ap (λ (ls : List Latch). with_latches ls s val)
      (drop_table latch_at (min (length c.latch.now) base.latches) i (omega (arith, length-take base.latches c.latch.now))))

  pub latches_end : (i s : ℕ) (val : Valuation) → length (take base.latches c.latch.now) ≤ i → with_latches (drop i (meant_lent c).latches) s val ≡ val
  unfolding meant_lent on_lines lent latches_of latch_at with_latches
  latches_end i s val h =
      ap (λ (ls : List Latch). with_latches ls s val)
      (drop_table_all latch_at (min (length c.latch.now) base.latches) i (omega (arith, length-take base.latches c.latch.now)))

  gate_at : ℕ → Gate
  gate_at i =
      record {
        own = literal_of (get_or c.gate.now i 0);
        left = literal_of (get_or c.left.now i 0);
        right = literal_of (get_or c.right.now i 0);
      }

  -- a gate is true where both of its operands are
  pub gates_next : (i : ℕ) (val : Valuation) → i < length c.gate.now
      → with_gates (drop i (meant_lent c).gates) val
      ≡ with_gates (drop (i + 1) (meant_lent c).gates)
      (put (variable (literal_of (get_or c.gate.now i 0)))
      (literal_value val (literal_of (get_or c.left.now i 0)) && literal_value val (literal_of (get_or c.right.now i 0))) val)
  unfolding meant_lent on_lines lent gates_of gate_at with_gates
  gates_next i val h = rw add-one (ap (λ (gs : List Gate). with_gates gs val) (drop_table gate_at (length c.gate.now) i h))

  pub gates_end : (i : ℕ) (val : Valuation) → length c.gate.now ≤ i → with_gates (drop i (meant_lent c).gates) val ≡ val
  unfolding meant_lent on_lines lent gates_of gate_at with_gates
  gates_end i val h = ap (λ (gs : List Gate). with_gates gs val) (drop_table_all gate_at (length c.gate.now) i h)

-- what a loop over inputs, latches or gates puts, and what a literal says
pub ruleset inputs_put = (inputs_next, inputs_end)

pub ruleset latches_put = (latches_next, latches_end)

pub ruleset gates_put = (gates_next, gates_end)

pub ruleset literals_told = (value_constant, value_other)
