-- A line of numbers (01, "The file"; "The numbers", 4: a line before the symbols is malformed or missing), as a statement: a line is malformed
-- if it isn't the text of so many numbers, none of more than seven digits. A missing line counts as an empty one. Assumes nothing.
use Rattle.std.specs.Prelude.{ℕ, ◌^◌, List, ◌≡◌, length}
use Rattle.bits.specs.Digits.{AllBelow}
use Rattle.text.specs.Written.{number_line}

pub record LineIs (n : ℕ) (line fs : List ℕ) : Type 0 where
  pub count : length fs ≡ n
  pub text : line ≡ number_line fs
  pub below : AllBelow (10 ^ 7) fs

abbrev pub Malformed : ℕ → (line : List ℕ) → Type 0
Malformed n line = (fs : List ℕ) → LineIs n line fs → ⊥
