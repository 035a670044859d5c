-- What the code's answer says of the header's line (01, "The file", rule 1). Assumes nothing.
use Rattle.std.specs.Prelude.{ℕ, List, [], ◌∷◌, ◌≡◌, Option, Some, None}
use Rattle.std.proofs.Math.Option.{none, some}
use Rattle.lines.specs.declared.header.Header.{Header as Value}
use Rattle.text.specs.Header.{Header, header_numbers}

-- the header that a value of the code says
abbrev pub said : Value → Header
said v = record { largest = v.largest; inputs = v.inputs; latches = v.latches; outputs = v.outputs; gates = v.gates }

-- the line's five numbers
abbrev pub HeadedAs : (line : List ℕ) → Option Value → Type 0
HeadedAs line (Some v) = header_numbers line ≡ some (v.largest ∷ v.inputs ∷ v.latches ∷ v.outputs ∷ v.gates ∷ [])
HeadedAs line None = header_numbers line ≡ none
