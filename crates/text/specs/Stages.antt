-- The stages behind the header (01, "The file", rule 2; "The numbers", the order): inputs, latches, output and gates, each with its rule, its
-- count of lines and the place of its first; then the late 7; then 16 (02, T-01); then the symbols. Assumes nothing.
use Rattle.std.specs.Prelude.{ℕ, ◌+◌, List, [], ◌++◌, map, ltb, length}
use Rattle.circuit.specs.Circuit.{Gate}
use Rattle.circuit.specs.Outcome.{Outcome, refuse_if}
use Rattle.order.specs.Circle.{lowest_circle}
use Rattle.text.specs.GateUses.{uses_of}
use Rattle.text.specs.Header.{Header}
use Rattle.text.specs.Kind.{used_by, a_latch, the_output, a_gate, gate_of}
use Rattle.text.specs.Numbers.{gate_circle}
use Rattle.text.specs.Rules.{input_rule, latch_rule, output_rule, gate_rule}
use Rattle.text.specs.Section.{Body, section, onward, used}
use Rattle.text.specs.Symbol.{Symbols, symbol_lines}

-- nothing is read yet of these lines
abbrev pub unread : List (List ℕ) → Body
unread rest = record { rows = []; defined = []; rest = rest }

abbrev pub input_section : Header → List (List ℕ) → Outcome Body
input_section h rest = section (input_rule h.largest) h.inputs 2 (unread rest)

abbrev pub latch_section : Header → Body → Outcome Body
latch_section h inputs = section (latch_rule h.largest) h.latches (2 + h.inputs) (onward inputs)

abbrev pub output_section : Header → Body → Outcome Body
output_section h latches = section (output_rule h.largest) 1 (2 + h.inputs + h.latches) (onward latches)

abbrev pub gate_section : Header → Body → Outcome Body
gate_section h output = section (gate_rule h.largest) h.gates (3 + h.inputs + h.latches) (onward output)

-- the literals of next states, output and operands
abbrev pub late_of : (latches output gates : Body) → List (List ℕ)
late_of latches output gates =
    map (used_by a_latch) latches.rows ++ (map (used_by the_output) output.rows ++ map (used_by a_gate) gates.rows)

abbrev pub late_stage : Header → (latches output gates : Body) → Outcome (Unit {0})
late_stage h latches output gates = used gates.defined (2 + h.inputs) (late_of latches output gates)

-- 16 at the lowest line of a gate that reaches itself, the first gate's line at a place
unfoldable pub circled : (place : ℕ) → List Gate → Outcome (Unit {0})
circled place gates =
    refuse_if (ltb (lowest_circle (uses_of gates) (length gates)) (length gates)) gate_circle (place + lowest_circle (uses_of gates) (length gates))

abbrev pub circle_stage : Header → Body → Outcome (Unit {0})
circle_stage h gates = circled (3 + h.inputs + h.latches) (map gate_of gates.rows)

abbrev pub symbol_stage : Header → Body → Outcome Symbols
symbol_stage h gates = symbol_lines h (3 + h.inputs + h.latches + h.gates) [] gates.rest
