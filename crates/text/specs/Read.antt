-- The result of reading any list of bytes (01, "The numbers": 1, 2, 3; lines in file order; late 7; 02, T-01: 16; symbols; 9). Assumes nothing.
use Rattle.std.specs.Prelude.{ℕ, not, List, [], map, ltb, length, get_or, drop}
use Rattle.std.proofs.Math.Option.{Option, none, some}
use Rattle.circuit.specs.Circuit.{Circuit, too_many}
use Rattle.circuit.specs.Limits.{Limits}
use Rattle.circuit.specs.Outcome.{Outcome, taken, refused, ◌>>=◌, ◌>>◌, refuse_if}
use Rattle.text.specs.Header.{Header, header_numbers, header_of, within_limits}
use Rattle.text.specs.Kind.{latch_of, gate_of}
use Rattle.text.specs.Line.{lines}
use Rattle.text.specs.Numbers.{file_too_long, bad_header, header_limit, too_many_inputs}
use Rattle.text.specs.Stages.{input_section, latch_section, output_section, gate_section, late_stage, circle_stage, symbol_stage}
use Rattle.text.specs.TextFile.{TextFile, circuit_of}

-- 2 at 1 where the first line has not the form
unfoldable pub or_bad_header : Option (List ℕ) → Outcome Header
or_bad_header none = refused bad_header 1
or_bad_header (some fs) = taken (header_of fs)

-- the lines behind the header
unfoldable pub lines_read : Header → List (List ℕ) → Outcome TextFile
lines_read h rest = do
  inputs ← input_section h rest
  latches ← latch_section h inputs
  output ← output_section h latches
  gates ← gate_section h output
  late_stage h latches output gates
  circle_stage h gates
  behind ← symbol_stage h gates
  taken (record {
    largest = h.largest;
    inputs = map (λ fs. get_or fs 0 0) inputs.rows;
    latches = map latch_of latches.rows;
    output = get_or (get_or output.rows 0 []) 0 0;
    gates = map gate_of gates.rows;
    symbols = behind.symbols;
    comment = behind.comment;
  })

unfoldable pub file_read : Limits → List ℕ → Outcome TextFile
file_read limits bytes = do
  refuse_if (ltb limits.file (length bytes)) file_too_long 0
  h ← or_bad_header (header_numbers (get_or (lines bytes) 0 []))
  refuse_if (not (within_limits limits h)) header_limit 1
  lines_read h (drop 1 (lines bytes))

-- a circuit, or number and place
unfoldable pub circuit_read : Limits → List ℕ → Outcome Circuit
circuit_read limits bytes = do
  f ← file_read limits bytes
  refuse_if (too_many limits (circuit_of f)) too_many_inputs 0
  taken (circuit_of f)
