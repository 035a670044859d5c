-- The table of numbers, 1 to 9 and 16, as a statement (01, "The numbers"; 02, T-01): a number with its place, and exactly when they are given, in
-- the table's order: 1, 2, 3; then 4 to 8, 16 before 8, by the lines; then 9. Assumes nothing.
use Rattle.std.specs.Prelude.{ℕ, ◌<◌, ◌≤◌, List, ◌≡◌, length, drop}
use Rattle.circuit.specs.Limits.{Limits}
use Rattle.circuit.specs.Outcome.{taken}
use Rattle.text.specs.BodyBroken.{BodyBroken}
use Rattle.text.specs.Crowded.{Crowded}
use Rattle.text.specs.Headed.{Headed, Headless}
use Rattle.text.specs.Header.{Header}
use Rattle.text.specs.Line.{lines}
use Rattle.text.specs.Numbers.{file_too_long, bad_header, header_limit, too_many_inputs}
use Rattle.text.specs.Read.{file_read}
use Rattle.text.specs.TextFile.{TextFile, circuit_of}
use Rattle.text.specs.Within.{Within}

-- the file is short enough, its first line is this header, and that is within the limits: 1, 2 and 3 aren't given
pub record Begun (limits : Limits) (bytes : List ℕ) (h : Header) : Type 0 where
  pub short : length bytes ≤ limits.file
  pub headed : Headed bytes h
  pub within : Within limits h

pub data Row (limits : Limits) (bytes : List ℕ) (number place : ℕ) : Type 0 where
  one : number ≡ file_too_long → place ≡ 0 → limits.file < length bytes → Row limits bytes number place
  two :
      number ≡ bad_header → place ≡ 1 → length bytes ≤ limits.file → Headless bytes
      → Row limits bytes number place
  three :
      number ≡ header_limit → place ≡ 1 → length bytes ≤ limits.file
      → (h : Header) → Headed bytes h → (Within limits h → ⊥)
      → Row limits bytes number place
  four_to_eight :
      (h : Header) → Begun limits bytes h → BodyBroken h (drop 1 (lines bytes)) number place
      → Row limits bytes number place
  nine :
      number ≡ too_many_inputs → place ≡ 0
      → (f : TextFile) → file_read limits bytes ≡ taken f → Crowded limits (circuit_of f)
      → Row limits bytes number place
