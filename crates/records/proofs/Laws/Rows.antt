-- The rows of an attack table (01, "The certificate", kind 4): three bytes each, one behind the other. Assumes nothing.
use Prim.Native.Nat.{ℕ, zero, suc, ◌+◌, ◌*◌, ◌<◌}
use native.Mathlib.Decide.{dec_lt}
use native.Mathlib.Nat.{not-suc-le-zero}
use native.Mathlib.Omega.{arith}
use mathlib.Core.List.{List, [], ◌∷◌, ◌++◌, append-nil, append_assoc, flat_map}
use mathlib.Core.Path.{◌≡◌, refl, sym, ap, ◌∙◌}
use lib.ListN.{length, get_or, length-append, get_or-append}
use lib.Seq.{get_or-append-add}
use Rattle.below.specs.Table.{table}
use Rattle.bits.specs.Digits.{digits}
use Rattle.bits.specs.InTurn.{in_turn}
use Rattle.bits.proofs.Laws.Digits.{length_digits}

-- rows of a list with one more at its end
flat_snoc : (f : ℕ → List ℕ) (xs : List ℕ) (x : ℕ) → flat_map f (xs ++ (x ∷ [])) ≡ flat_map f xs ++ f x
unfolding flat_map
flat_snoc f [] x = append-nil (f x)
flat_snoc f (y ∷ ys) x = ap (λ (l : List ℕ). f y ++ l) (flat_snoc f ys x) ∙ sym (append_assoc (f y) (flat_map f ys) (f x))

pub rows_in_turn : (f : ℕ → List ℕ) (n : ℕ) → in_turn f n ≡ flat_map f (table (λ s. s) n)
unfolding in_turn table flat_map
rows_in_turn f zero = refl
rows_in_turn f (suc n) = ap (λ (l : List ℕ). l ++ f n) (rows_in_turn f n) ∙ sym (flat_snoc f (table (λ s. s) n) n)

pub length_row : (ranks attacks : ℕ → ℕ) (s : ℕ) → length (digits 256 2 (ranks s) ++ (attacks s ∷ [])) ≡ 3
length_row ranks attacks s = length-append (digits 256 2 (ranks s)) (attacks s ∷ []) ∙ omega (arith, length_digits 256 2 (ranks s))

module _ (f : ℕ → List ℕ) (three : (s : ℕ) → length (f s) ≡ 3) where
  pub length_rows : (n : ℕ) → length (in_turn f n) ≡ 3 * n
  unfolding in_turn
  length_rows zero = refl
  length_rows (suc n) = length-append (in_turn f n) (f n) ∙ omega (arith, three n, length_rows n)

  pub row_at : (n s k : ℕ) → s < n → k < 3 → get_or (in_turn f n) (3 * s + k) 0 ≡ get_or (f s) k 0
  unfolding in_turn
  row_at zero s k h l = absurd (not-suc-le-zero h)
  row_at (suc n) s k h l =
      elim (dec_lt s n) [ yes a ↦ before a ∙ row_at n s k a l | no a ↦ last (omega arith) ]
    where
      before : s < n → get_or (in_turn f n ++ f n) (3 * s + k) 0 ≡ get_or (in_turn f n) (3 * s + k) 0
      before a = get_or-append (in_turn f n) (f n) 0 (3 * s + k) (omega (arith, length_rows n))

      place : s ≡ n → 3 * s + k ≡ length (in_turn f n) + k
      place e = omega (arith, length_rows n)

      last : s ≡ n → get_or (in_turn f n ++ f n) (3 * s + k) 0 ≡ get_or (f s) k 0
      last e = ap (λ (i : ℕ). get_or (in_turn f n ++ f n) i 0) (place e) ∙ get_or-append-add (in_turn f n) (f n) k 0 ∙ ap (λ (i : ℕ). get_or (f i) k 0) (sym e)
