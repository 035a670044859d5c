-- What the code's answer says of one line before the symbols (01, "The numbers": each 4, 5, 6). Assumes nothing.
use Rattle.std.specs.Prelude.{ℕ, ◌+◌, ◌*◌, ◌<◌, ◌≤◌, List, ◌≡◌, length, get_or, take, Result, Ok, Err}
use Rattle.circuit.specs.Fault.{number_of}
use Rattle.circuit.specs.Outcome.{taken, refused}
use Rattle.circuit.specs.declared.numbers.Fault.{Fault}
use Rattle.fields.specs.Inner.Marks.{Marks}
use Rattle.text.specs.Line.{numbers_of}
use Rattle.text.specs.Rules.{Rule}
use Rattle.text.specs.Section.{judged}

-- three literals that a circuit of this largest variable may have; of them so many are there, and what isn't there is 0
pub record Literals (largest count : ℕ) (row : List ℕ) : Type 0 where
  pub three : length row ≡ 3
  pub each : (i : ℕ) → get_or row i 0 < 2 * largest + 2
  pub others : (i : ℕ) → count ≤ i → get_or row i 0 ≡ 0

-- whatever was defined above the line, if the marks say it
abbrev pub LinedAs : (largest : ℕ) → Rule → (marks line : List ℕ) → Result (List ℕ) Fault → Type 0
LinedAs largest rule marks line (Ok row) =
    ((defined : List ℕ) (place : ℕ) → Marks marks defined
    → judged rule defined place (numbers_of rule.count line) ≡ taken (take rule.count row))
    × Literals largest rule.count row
LinedAs largest rule marks line (Err fault) =
    (defined : List ℕ) (place : ℕ) → Marks marks defined
    → judged rule defined place (numbers_of rule.count line) ≡ refused (number_of fault) place
