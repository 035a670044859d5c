-- The circuit that a value of the code stands for, whoever made it, and the value that stores a circuit. Of the arrays only what lies
-- below the counts is read; a literal above any that a circuit may have counts as 0. Assumes nothing.
use Rattle.std.specs.Prelude.{ℕ, min, cond, not, List, [], ◌++◌, map, eqb, length, get_or, take, replicate}
use Rattle.below.specs.Table.{table}
use Rattle.bits.specs.Bit.{one_if}
use Rattle.circuit.specs.Circuit.{Circuit, Input, Latch, Gate, too_many}
use Rattle.circuit.specs.Limits.{base}
use Rattle.circuit.specs.Literal.{too_large}
use Rattle.circuit.specs.declared.Circuit.{Circuit as Value}
use Rattle.circuit.specs.declared.lent.Lent.{Lent}

unfoldable pub literal_of : ℕ → ℕ
literal_of l = cond (too_large base.variable l) 0 l

-- inputs, latches and gates as lent lists of numbers say them: as many as the first list has, and no more latches than a circuit may have
unfoldable pub inputs_of : (input controllable : List ℕ) → List Input
inputs_of input controllable =
    table (λ i. record { own = literal_of (get_or input i 0); controllable = not (eqb (get_or controllable i 0) 0) }) (length input)

unfoldable pub latches_of : (latch next : List ℕ) → List Latch
latches_of latch next =
    table
    (λ i. record { own = literal_of (get_or latch i 0); next = literal_of (get_or next i 0) })
    (min (length latch) base.latches)

unfoldable pub gates_of : (gate left right : List ℕ) → List Gate
gates_of gate left right =
    table
    (λ i. record { own = literal_of (get_or gate i 0); left = literal_of (get_or left i 0); right = literal_of (get_or right i 0) })
    (length gate)

-- the circuit of lent lists, each gate on the line of its own number
unfoldable pub lent : ℕ → (input controllable latch next : List ℕ) → ℕ → (gate left right : List ℕ) → Circuit
lent largest input controllable latch next output gate left right =
    record {
      largest = largest;
      inputs = inputs_of input controllable;
      latches = latches_of latch next;
      output = literal_of output;
      gates = gates_of gate left right;
      lines = table (λ i. i) (length gate);
    }

-- a circuit whose gates stand on other lines
unfoldable pub on_lines : List ℕ → Circuit → Circuit
on_lines lines c =
    record {
      largest = c.largest;
      inputs = c.inputs;
      latches = c.latches;
      output = c.output;
      gates = c.gates;
      lines = lines;
    }

-- the circuit that a value stands for
unfoldable pub meant : Value → Circuit
meant v =
    on_lines (take v.gates v.lines)
    (lent v.largest (take v.inputs v.input) v.controllable (take v.latches v.latch) v.next v.output
    (take v.gates v.gate) v.left v.right)

-- the circuit that lent arrays stand for
unfoldable pub meant_lent : Lent → Circuit
meant_lent l =
    on_lines l.lines.now
    (lent l.largest l.input.now l.controllable.now l.latch.now l.next.now l.output l.gate.now l.left.now l.right.now)

-- n numbers: those of a list, then zeros
unfoldable pub padded : ℕ → List ℕ → List ℕ
padded n l = take n (l ++ replicate n 0)

-- the value that stores a circuit
unfoldable pub stored : Circuit → Value
stored c =
    record {
      largest = c.largest;
      inputs = length c.inputs;
      latches = length c.latches;
      gates = length c.gates;
      input = padded base.inputs (map (λ (i : Input). i.own) c.inputs);
      controllable = padded base.inputs (map (λ (i : Input). one_if i.controllable) c.inputs);
      latch = padded base.latches (map (λ (l : Latch). l.own) c.latches);
      next = padded base.latches (map (λ (l : Latch). l.next) c.latches);
      output = c.output;
      gate = padded base.variable (map (λ (g : Gate). g.own) c.gates);
      left = padded base.variable (map (λ (g : Gate). g.left) c.gates);
      right = padded base.variable (map (λ (g : Gate). g.right) c.gates);
      lines = padded base.variable c.lines;
    }

-- the circuit that says nothing
unfoldable pub empty_circuit : Circuit
empty_circuit = record { largest = 0; inputs = []; latches = []; output = 0; gates = []; lines = [] }

-- the circuit, or the empty one where it has more inputs of a sort than a circuit may have
unfoldable pub solvable : Circuit → Circuit
solvable c = cond (too_many base c) empty_circuit c
