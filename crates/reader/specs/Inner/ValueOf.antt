-- The circuit that rows, the gates' order and flags say, as a value of the code. Assumes nothing.
use Rattle.std.specs.Prelude.{ℕ, ◌+◌, List, map}
use Rattle.below.specs.Table.{table}
use Rattle.circuit.specs.Limits.{base}
use Rattle.circuit.specs.Stored.{padded}
use Rattle.circuit.specs.declared.Circuit.{Circuit as Value}
use Rattle.order.specs.Place.{place_in}
use Rattle.reader.specs.Inner.Rows.{cell, column_of}
use Rattle.text.specs.Header.{Header}

-- one number of each gate's line, in an order
unfoldable pub ordered_column : (rows : List (List ℕ)) (start : ℕ) (order : List ℕ) (which : ℕ) → List ℕ
ordered_column rows start order which = map (λ i. cell rows (start + i) which) order

unfoldable pub value_of : Header → (rows : List (List ℕ)) (order flags : List ℕ) → Value
value_of h rows order flags =
    let first = h.inputs + h.latches + 1 in
    record {
      largest = h.largest;
      inputs = h.inputs;
      latches = h.latches;
      gates = h.gates;
      input = padded base.inputs (column_of rows 0 h.inputs 0);
      controllable = flags;
      latch = padded base.latches (column_of rows h.inputs h.latches 0);
      next = padded base.latches (column_of rows h.inputs h.latches 1);
      output = cell rows (h.inputs + h.latches) 0;
      gate = padded base.variable (ordered_column rows first order 0);
      left = padded base.variable (ordered_column rows first order 1);
      right = padded base.variable (ordered_column rows first order 2);
      lines = padded base.variable (table (place_in order) h.gates);
    }
