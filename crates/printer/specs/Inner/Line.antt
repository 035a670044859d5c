-- The lines that are printed for a lent circuit (01, "The file", rules 2 and 5), each at its place among its kind. Assumes nothing.
use Rattle.std.specs.Prelude.{ℕ, cond, not, List, [], ◌∷◌, ◌++◌, eqb, get_or}
use Rattle.circuit.specs.Circuit.{Gate, gate_at}
use Rattle.circuit.specs.Stored.{literal_of, gates_of}
use Rattle.circuit.specs.declared.lent.Lent.{Lent}
use Rattle.text.specs.Number.{decimal}
use Rattle.text.specs.Symbol.{input_letter, prefix}
use Rattle.text.specs.Written.{number_line, symbol_line}

abbrev pub input_line : Lent → ℕ → List ℕ
input_line l i = number_line (literal_of (get_or l.input.now i 0) ∷ [])

abbrev pub latch_line : Lent → ℕ → List ℕ
latch_line l i = number_line (literal_of (get_or l.latch.now i 0) ∷ literal_of (get_or l.next.now i 0) ∷ [])

abbrev pub gate_text : Gate → List ℕ
gate_text g = number_line (g.own ∷ g.left ∷ g.right ∷ [])

-- the gate that stands on a line (02, T-01)
abbrev pub gate_line : Lent → ℕ → List ℕ
gate_line l i = gate_text (gate_at (gates_of l.gate.now l.left.now l.right.now) (get_or l.lines.now i 0))

-- the symbol of a controllable input, and nothing for another
unfoldable pub name_line : Lent → ℕ → List ℕ
name_line l i =
    cond (not (eqb (get_or l.controllable.now i 0) 0))
    (symbol_line (record { letter = input_letter; position = i; name = prefix ++ decimal i }))
    []
