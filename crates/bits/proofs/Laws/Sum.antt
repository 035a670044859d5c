-- The sum of digits that stand one behind the other, and of two digits. Assumes nothing.
use Prim.Native.Nat.{ℕ, suc, ◌+◌, ◌*◌, ◌^◌, ◌≤◌}
use native.Mathlib.Numerals.{add-one}
use native.Mathlib.Omega.{arith}
use native.Mathlib.Nat.{pow-zero, pow-suc, one-mul}
use mathlib.Core.List.{List, [], ◌∷◌, ◌++◌}
use mathlib.Core.Path.{◌≡◌, ap, ◌∙◌}
use lib.ListN.{length, get_or, take, drop, length-drop}
use lib.Seq.{drop-cons, drop-drop, take-add, length-take-le}
use Rattle.bits.specs.Digits.{sum}

pub sum_append : (b : ℕ) (xs ys : List ℕ) → sum b (xs ++ ys) ≡ sum b xs + b ^ length xs * sum b ys
unfolding sum
sum_append b [] ys = rw (pow-zero, one-mul) (omega arith)
sum_append b (x ∷ xs) ys = rw (sum_append b xs ys, pow-suc) (omega arith)

-- two digits at a place
pub sum_two : (b : ℕ) (ds : List ℕ) (at : ℕ) → at + 2 ≤ length ds → sum b (take 2 (drop at ds)) ≡ get_or ds at 0 + b * get_or ds (at + 1) 0
unfolding sum
sum_two b ds at h = ap (λ (l : List ℕ). sum b (take 2 l)) cells ∙ rw add-one (omega arith)
  where
    cells : drop at ds ≡ get_or ds at 0 ∷ get_or ds (suc at) 0 ∷ drop (suc (suc at)) ds
    cells = drop-cons ds at 0 (omega arith) ∙ ap (λ (l : List ℕ). get_or ds at 0 ∷ l) (drop-cons ds (suc at) 0 (omega arith))

-- four digits at a place are two and two
pub sum_four : (ds : List ℕ) (at : ℕ) → at + 4 ≤ length ds
    → sum 256 (take 4 (drop at ds)) ≡ sum 256 (take 2 (drop at ds)) + 65536 * sum 256 (take 2 (drop (at + 2) ds))
sum_four ds at h = ap (sum 256) (take-add 2 2 (drop at ds)) ∙ sum_append 256 (take 2 (drop at ds)) (take 2 (drop 2 (drop at ds))) ∙ tail
  where
    two : length (take 2 (drop at ds)) ≡ 2
    two = length-take-le 2 (drop at ds) (omega (arith, length-drop at ds))

    tail : sum 256 (take 2 (drop at ds)) + 256 ^ length (take 2 (drop at ds)) * sum 256 (take 2 (drop 2 (drop at ds)))
        ≡ sum 256 (take 2 (drop at ds)) + 65536 * sum 256 (take 2 (drop (at + 2) ds))
    tail = rw (two, drop-drop)
