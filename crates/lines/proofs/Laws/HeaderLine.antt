-- The header's line: the word, then five numbers. Assumes nothing.
use Prim.Native.Nat.{ℕ, ◌≤◌}
use native.Mathlib.Omega.{arith}
use mathlib.Core.Bool.{true, false}
use mathlib.Core.List.{List, [], ◌∷◌}
use mathlib.Core.Option.{none, some}
use mathlib.Core.Path.{◌≡◌, refl, sym, ap, ◌∙◌, subst}
use lib.ListN.{length, get_or, take, drop}
use lib.Seq.{take_all}
use Rattle.bits.specs.Bytes.{starts_with}
use Rattle.fields.specs.Inner.RowAt.{IsRow}
use Rattle.text.specs.Header.{word, header_numbers}
use Rattle.text.specs.Line.{numbers_of}

five_cells : (numbers : List ℕ) → length numbers ≡ 5
    → numbers ≡ get_or numbers 0 0 ∷ get_or numbers 1 0 ∷ get_or numbers 2 0 ∷ get_or numbers 3 0 ∷ get_or numbers 4 0 ∷ []
five_cells (a ∷ b ∷ c ∷ d ∷ f ∷ []) e = refl
five_cells [] e = absurd (omega arith)
five_cells (a ∷ []) e = absurd (omega arith)
five_cells (a ∷ b ∷ []) e = absurd (omega arith)
five_cells (a ∷ b ∷ c ∷ []) e = absurd (omega arith)
five_cells (a ∷ b ∷ c ∷ d ∷ []) e = absurd (omega arith)
five_cells (a ∷ b ∷ c ∷ d ∷ f ∷ g ∷ rest) e = absurd (omega arith)

pub header_none : (line : List ℕ) → starts_with word line ≡ false → header_numbers line ≡ none
unfolding header_numbers
header_none line e = rw e

module _ (line : List ℕ) (e : starts_with word line ≡ true) where
  pub header_malformed : ((n : ℕ) → 1 ≤ n → n ≤ 5 → numbers_of n (drop 4 line) ≡ none) → header_numbers line ≡ none
  unfolding header_numbers
  header_malformed h = rw e (h 5 (omega arith) (omega arith))

  pub header_other-count : (n : ℕ) (numbers : List ℕ) → IsRow line 4 n numbers → (n ≡ 5 → ⊥) → header_numbers line ≡ none
  unfolding header_numbers
  header_other-count n numbers row d = rw e (row.only 5 (omega arith) (λ f. d (sym f)))

  pub header_is : (n : ℕ) (numbers : List ℕ) → IsRow line 4 n numbers → n ≡ 5 → header_numbers line
      ≡ some (get_or numbers 0 0 ∷ get_or numbers 1 0 ∷ get_or numbers 2 0 ∷ get_or numbers 3 0 ∷ get_or numbers 4 0 ∷ [])
  unfolding header_numbers
  header_is n numbers row five =
      rw e
      (subst (λ (k : ℕ). numbers_of k (drop 4 line) ≡ some (take k numbers)) five row.is
      ∙ ap some (take_all 5 numbers (omega (arith, row.five)) ∙ five_cells numbers row.five))
