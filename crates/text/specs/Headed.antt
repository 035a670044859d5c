-- The first line (01, "The file", rule 1; "The numbers", 2): `aag` and five numbers in their form, as it is written. Assumes nothing.
use Rattle.std.specs.Prelude.{ℕ, ◌^◌, List, [], ◌∷◌, ◌++◌, ◌≡◌}
use Rattle.bits.specs.Digits.{AllBelow}
use Rattle.text.specs.Header.{Header, word}
use Rattle.text.specs.Written.{number_line}

-- the numbers of a header: M I L O A
abbrev pub row_of : Header → List ℕ
row_of h = h.largest ∷ h.inputs ∷ h.latches ∷ h.outputs ∷ h.gates ∷ []

-- a file whose first line is the word and the five numbers of this header, none of more than seven digits
pub record Headed (bytes : List ℕ) (h : Header) : Type 0 where
  pub rest : List ℕ
  pub text : bytes ≡ word ++ number_line (row_of h) ++ rest
  pub below : AllBelow (10 ^ 7) (row_of h)

-- a file whose first line is that of no header
abbrev pub Headless : List ℕ → Type 0
Headless bytes = (h : Header) → Headed bytes h → ⊥
