-- Lines by their places in a file: where the first line of what is left ends, and what is left behind it. Assumes nothing.
use Prim.Native.Nat.{ℕ, ◌≤◌}
use native.Mathlib.Omega.{arith}
use mathlib.Core.Bool.{Bool, true, false, cond}
use mathlib.Core.List.{List, [], ◌∷◌}
use mathlib.Core.Path.{◌≡◌, refl, sym, ap}
use lib.Dec.{eqb}
use lib.ListN.{length, get_or, take, drop}
use Rattle.text.specs.Line.{lines, before, first_line}

pub first_line_cons : (b : ℕ) (t : List ℕ) → first_line (b ∷ t) ≡ b ∷ cond (eqb b 10) [] (first_line t)
unfolding first_line lines before
first_line_cons b t = by (eqb b 10) (lines t)
  where
    by : (e : Bool) (ls : List (List ℕ)) → get_or (cond e ((b ∷ []) ∷ ls) (before b ls)) 0 [] ≡ b ∷ cond e [] (get_or ls 0 [])
    by true ls = refl
    by false [] = refl
    by false (l ∷ ls) = refl

-- the other lines are those of what stands behind the first
pub lines-behind : (t : List ℕ) → drop 1 (lines t) ≡ lines (drop (length (first_line t)) t)
unfolding first_line lines before
lines-behind [] = refl
lines-behind (b ∷ t) = by (eqb b 10) (lines t) refl (lines-behind t)
  where
    by : (e : Bool) (ls : List (List ℕ)) → lines t ≡ ls → drop 1 (lines t) ≡ lines (drop (length (get_or (lines t) 0 [])) t)
        → drop 1 (cond e ((b ∷ []) ∷ ls) (before b ls)) ≡ lines (drop (length (get_or (cond e ((b ∷ []) ∷ ls) (before b ls)) 0 [])) (b ∷ t))
    by true ls q ih = sym q
    by false [] q ih = sym q
    by false (l ∷ ls) q ih = rw q at ih

pub first_line_nil : first_line [] ≡ []
unfolding first_line lines
first_line_nil = refl

-- the first line is what a text begins with
pub first_line_takes : (t : List ℕ) → take (length (first_line t)) t ≡ first_line t
first_line_takes [] = rw first_line_nil
first_line_takes (b ∷ t) = rw first_line_cons (by (eqb b 10) (first_line_takes t))
  where
    by : (e : Bool) → take (length (first_line t)) t ≡ first_line t → take (length (b ∷ cond e [] (first_line t))) (b ∷ t) ≡ b ∷ cond e [] (first_line t)
    by true ih = refl
    by false ih = ap {B = List ℕ} (λ l. b ∷ l) ih

pub first_line_within : (t : List ℕ) → length (first_line t) ≤ length t
first_line_within [] = rw first_line_nil (omega arith)
first_line_within (b ∷ t) = rw first_line_cons (by (eqb b 10) (first_line_within t))
  where
    by : (e : Bool) → length (first_line t) ≤ length t → length (b ∷ cond e [] (first_line t)) ≤ length (b ∷ t)
    by true ih = omega arith
    by false ih = omega arith
