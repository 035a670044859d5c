-- The line of a state of a realizable circuit: its number, 1 or 0 for in or out, and the replies in a row. Assumes nothing.
use Prim.Native.Nat.{ℕ, ◌+◌, ◌*◌, min, ◌≤◌}
use native.Mathlib.Omega.{arith}
use mathlib.Core.Bool.{Bool, true, false}
use mathlib.Core.List.{List, [], ◌∷◌, ◌++◌, flat_map, append_assoc}
use mathlib.Core.Path.{◌≡◌, refl, sym, ap, ◌∙◌, subst}
use lib.ListN.{length, get_or, get_or-eq_default}
use Rattle.std.specs.Int.{from_bool}
use Rattle.below.specs.Table.{table}
use Rattle.bits.specs.Bit.{one_if}
use Rattle.bits.specs.InTurn.{in_turn}
use Rattle.bits.proofs.Laws.InTurn.{in_turn_same}
use Rattle.decimal.proofs.Laws.InTurn.{flat_map_table}
use Rattle.page.specs.Added.{Added, last_place}
use Rattle.page.specs.Field.{field}
use Rattle.page.specs.declared.Page.{Page}
use Rattle.page.proofs.Laws.Added.{added_both}
use Rattle.page.proofs.Laws.Line.{line_fields}
use Rattle.solver.specs.declared.Solution.{Solution}
use Rattle.text.specs.Number.{decimal}
use Rattle.text.specs.Written.{number_line}
use Rattle.listing.specs.Inner.SolvedText.{inside, reply_text}

-- a line of two numbers and then a table
pub line_table : (n m : ℕ) (f : ℕ → ℕ) (k : ℕ) → number_line (n ∷ m ∷ table f k) ≡ decimal n ++ (field m ++ (in_turn (λ i. field (f i)) k ++ (10 ∷ [])))
unfolding flat_map
line_table n m f k =
    line_fields n (m ∷ table f k)
    ∙ ap (λ (l : List ℕ). decimal n ++ l)
    (append_assoc (field m) (flat_map field (table f k)) (10 ∷ []) ∙ ap (λ (l : List ℕ). field m ++ (l ++ (10 ∷ []))) (flat_map_table field f k))

-- a place behind the last that is counted lies behind the list
place_counted : (l : List ℕ) (a i : ℕ) → length l ≤ last_place → get_or l (min a last_place + i) 0 ≡ get_or l (a + i) 0
place_counted l a i h = grind (arith, get_or-eq_default {A = ℕ})

from_bool-is : (b : Bool) → from_bool b ≡ one_if b
unfolding one_if
from_bool-is true = refl
from_bool-is false = refl

module _ (solution : Solution) (readings state : ℕ) {p q r s t : Page} where
  pub added_replies :
      {within : Bool} {own many first : ℕ} → within ≡ inside solution.ranks state → own ≡ from_bool within → many ≡ readings
      → first ≡ min (state * many) last_place → length solution.replies ≤ last_place → Added (decimal state) p q → Added (field own) q r
      → Added (in_turn (λ i. field (get_or solution.replies (first + i) 0)) many) r s → Added (10 ∷ []) s t → Added (reply_text solution readings state) p t
  unfolding reply_text
  added_replies {within} {own} {many} {first} e f g m h a b c d =
      let told : one_if (inside solution.ranks state) ≡ own = ap one_if (sym e) ∙ sym (from_bool-is within) ∙ sym f in
      let place : (i : ℕ) → get_or solution.replies (first + i) 0 ≡ get_or solution.replies (state * many + i) 0 =
      λ i. ap (λ (k : ℕ). get_or solution.replies (k + i) 0) m ∙ place_counted solution.replies (state * many) i h in
      let row : Added (in_turn (λ i. field (get_or solution.replies (state * many + i) 0)) many) r s =
      subst (λ (l : List ℕ). Added l r s)
      (in_turn_same (λ i. field (get_or solution.replies (first + i) 0)) (λ i. field (get_or solution.replies (state * many + i) 0)) many
      (λ i l. ap field (place i))) c in
      rw (told, ← g, line_table) (added_both a (added_both b (added_both row d)))
