-- What is wrong with a line before the symbols (01, "The numbers", 4 to 6), and the order within a line: 4, 5, 6, each only if none before it
-- applies. Assumes nothing.
use Rattle.std.specs.Prelude.{ℕ, ◌+◌, ◌*◌, ◌%◌, ◌<◌, List, ◌≡◌}
use Rattle.circuit.specs.Literal.{variable}
use Rattle.text.specs.InList.{In}
use Rattle.text.specs.Kind.{Kind, numbers_in, defining}
use Rattle.text.specs.LineIs.{LineIs, Malformed}
use Rattle.text.specs.Numbers.{bad_line, bad_literal, defined_twice}

-- 5: a literal too large, or a defining one odd or 0
pub data BadLiteral (M : ℕ) (kind : Kind) (fs : List ℕ) : Type 0 where
  large : (l : ℕ) → In fs l → 2 * M + 1 < l → BadLiteral M kind fs
  odd_own : (l : ℕ) → In (defining kind fs) l → l % 2 ≡ 1 → BadLiteral M kind fs
  zero_own : In (defining kind fs) 0 → BadLiteral M kind fs

-- 6: a variable that a line above defines
abbrev pub Twice : Kind → (defined fs : List ℕ) → Type 0
Twice kind defined fs = (l : ℕ) × In (defining kind fs) l × In defined (variable l)

-- a line's number, given the variables that the lines above define
pub data LineFault (M : ℕ) (kind : Kind) (defined line : List ℕ) (number : ℕ) : Type 0 where
  four : number ≡ bad_line → Malformed (numbers_in kind) line → LineFault M kind defined line number
  five :
      number ≡ bad_literal → (fs : List ℕ) → LineIs (numbers_in kind) line fs
      → BadLiteral M kind fs
      → LineFault M kind defined line number
  six :
      number ≡ defined_twice → (fs : List ℕ) → LineIs (numbers_in kind) line fs
      → (BadLiteral M kind fs → ⊥) → Twice kind defined fs
      → LineFault M kind defined line number

-- a line of these numbers to which none applies
pub record LineRight (M : ℕ) (kind : Kind) (defined line fs : List ℕ) : Type 0 where
  pub is : LineIs (numbers_in kind) line fs
  pub literals : BadLiteral M kind fs → ⊥
  pub once : Twice kind defined fs → ⊥
