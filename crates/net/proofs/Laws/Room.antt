-- A value of the code has room for no more than a circuit may have. Assumes nothing.
use Prim.Native.Nat.{ℕ, ◌+◌, ◌<◌, ◌≤◌, min}
use native.Mathlib.Omega.{arith}
use mathlib.Core.List.{List}
use mathlib.Core.Path.{◌≡◌, refl}
use lib.ListN.{length, get_or, take, length-take}
use Rattle.below.proofs.Laws.Table.{length_table}
use Rattle.circuit.specs.Circuit.{Circuit, Input, Latch, Gate, latch_count, controllable_count, uncontrollable_count}
use Rattle.circuit.specs.Limits.{base}
use Rattle.circuit.specs.Stored.{meant, meant_lent, on_lines, lent, inputs_of, latches_of, gates_of, literal_of}
use Rattle.circuit.specs.declared.Circuit.{Circuit as Value}
use Rattle.circuit.specs.declared.lent.Lent.{Lent}
use Rattle.circuit.proofs.Laws.Inputs.{inputs_parted, length_inputs}

-- as many inputs, latches and gates as the code's lists have room for
pub record Room (c : Circuit) : Type 0 where
  pub inputs : length c.inputs ≤ base.inputs
  pub latches : length c.latches ≤ base.latches
  pub gates : length c.gates ≤ base.variable

-- a value of the code has room for no more than a circuit may have
pub meant_room : (v : Value) → length v.input ≡ base.inputs → length v.gate ≡ base.variable → Room (meant v)
unfolding meant on_lines lent latches_of gates_of
meant_room v i g =
    record {
      inputs = omega (arith, length_inputs (take v.inputs v.input) v.controllable, length-take v.inputs v.input, i);
      latches = omega (
        arith,
        length_table {A = Latch} (λ n. record {
          own = literal_of (get_or (take v.latches v.latch) n 0);
          next = literal_of (get_or v.next n 0);
        }) (min (length (take v.latches v.latch)) base.latches),
      );
      gates = omega (
        arith,
        length_table {A = Gate} (λ n. record {
          own = literal_of (get_or (take v.gates v.gate) n 0);
          left = literal_of (get_or v.left n 0);
          right = literal_of (get_or v.right n 0);
        }) (length (take v.gates v.gate)),
        length-take v.gates v.gate,
        g,
      );
    }

pub few_inputs : (v : Value) → length v.input ≡ base.inputs → controllable_count (meant v) + uncontrollable_count (meant v) ≤ base.inputs
unfolding meant on_lines lent controllable_count uncontrollable_count
few_inputs v e =
    omega (
      arith,
      inputs_parted (λ (i : Input). i.controllable) (inputs_of (take v.inputs v.input) v.controllable),
      length_inputs (take v.inputs v.input) v.controllable,
      length-take v.inputs v.input,
      e,
    )

pub few_controls : (v : Value) → length v.input ≡ base.inputs → controllable_count (meant v) ≤ base.inputs
few_controls v e = omega (arith, few_inputs v e)

pub few_readings : (v : Value) → length v.input ≡ base.inputs → uncontrollable_count (meant v) ≤ base.inputs
few_readings v e = omega (arith, few_inputs v e)

-- a place in the front of a list is one of the list
pub front_within : (n i : ℕ) (l : List ℕ) → i < length (take n l) → i < length l
front_within n i l h = omega (arith, length-take n l)

pub few_latches : (v : Value) → latch_count (meant v) ≤ base.latches
unfolding meant on_lines lent latches_of latch_count
few_latches v =
    omega (
      arith,
      length_table {A = Latch} (λ n. record {
        own = literal_of (get_or (take v.latches v.latch) n 0);
        next = literal_of (get_or v.next n 0);
      }) (min (length (take v.latches v.latch)) base.latches),
    )

pub few_gates : (v : Value) → length v.gate ≡ base.variable → length (take v.gates v.gate) ≤ base.variable
few_gates v e = omega (arith, length-take v.gates v.gate, e)

pub output_is : (v : Value) → (meant v).output ≡ literal_of v.output
unfolding meant on_lines lent
output_is v = refl

-- as many gates as are lent
pub gates_long : (l : Lent) → length (meant_lent l).gates ≡ length l.gate.now
unfolding meant_lent on_lines lent gates_of
gates_long l =
    length_table {A = Gate} (λ n. record {
      own = literal_of (get_or l.gate.now n 0);
      left = literal_of (get_or l.left.now n 0);
      right = literal_of (get_or l.right.now n 0);
    }) (length l.gate.now)

-- what a head holds
pub ruleset heads = (few_controls, few_readings, few_latches, output_is)
