-- Printing (01, "The numbers", last paragraph): header, lines in the order read, and for each controllable input in order `i`, position,
-- ` controllable_`, position; no other names, no comment. Assumes nothing.
use Rattle.std.specs.Prelude.{ℕ, zero, suc, cond, List, [], ◌∷◌, ◌++◌, map}
use Rattle.std.proofs.Math.Option.{none}
use Rattle.circuit.specs.Answer.{fitted}
use Rattle.circuit.specs.Circuit.{Circuit, Input, gate_lines}
use Rattle.circuit.specs.Outcome.{Outcome}
use Rattle.text.specs.Number.{decimal}
use Rattle.text.specs.Symbol.{Symbol, input_letter, prefix}
use Rattle.text.specs.TextFile.{TextFile}
use Rattle.text.specs.Written.{text_of}

-- the symbols of the controllable inputs, the first of the inputs at a position
unfoldable pub printed_symbols : ℕ → List Input → List Symbol
printed_symbols position [] = []
printed_symbols position (i ∷ is) =
    cond i.controllable (record { letter = input_letter; position = position; name = prefix ++ decimal position } ∷ []) []
    ++ printed_symbols (suc position) is

unfoldable pub printed_file : Circuit → TextFile
printed_file c =
    record {
      largest = c.largest;
      inputs = map (λ (i : Input). i.own) c.inputs;
      latches = c.latches;
      output = c.output;
      gates = gate_lines c;
      symbols = printed_symbols zero c.inputs;
      comment = none;
    }

unfoldable pub printed : Circuit → List ℕ
printed c = text_of (printed_file c)

-- what is printed of a circuit, given room for so many bytes
unfoldable pub printed_into : Circuit → ℕ → Outcome (List ℕ)
printed_into c room = fitted (printed c) room
