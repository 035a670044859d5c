-- The tests on lists of bytes say what they are named for. Assumes nothing.
use Prim.Native.Nat.{ℕ}
use mathlib.Core.Bool.{Bool, true, false, ◌&&◌}
use mathlib.Core.List.{List, [], ◌∷◌, ◌++◌}
use mathlib.Core.Path.{◌≡◌, refl, sym, ap₂}
use lib.Dec.{eqb}
use lib.ListN.{length, drop}
use borrow.Author.Tests.{eqb-true, eq-eqb}
use Rattle.bits.specs.Bytes.{same_bytes, starts_with}

pub both_true : (a b : Bool) → (a && b) ≡ true → (a ≡ true) × (b ≡ true)
both_true true b e = (refl, e)
both_true false b e = (e, cc)

pub same_bytes_equal : (ss ts : List ℕ) → same_bytes ss ts ≡ true → ss ≡ ts
unfolding same_bytes
same_bytes_equal [] [] e = refl
same_bytes_equal [] (t ∷ ts) e = cc
same_bytes_equal (s ∷ ss) [] e = cc
same_bytes_equal (s ∷ ss) (t ∷ ts) e =
    let (here, there) = both_true (eqb s t) (same_bytes ss ts) e in
    ap₂ {C = List ℕ} (λ x xs. x ∷ xs) (eqb-true s t here) (same_bytes_equal ss ts there)

pub same_bytes_refl : (ss : List ℕ) → same_bytes ss ss ≡ true
unfolding same_bytes
same_bytes_refl [] = refl
same_bytes_refl (s ∷ ss) = rw (eq-eqb s s refl) (same_bytes_refl ss)

pub starts_with_append : (ss ts : List ℕ) → starts_with ss (ss ++ ts) ≡ true
unfolding starts_with
starts_with_append [] ts = refl
starts_with_append (s ∷ ss) ts = rw (eq-eqb s s refl) (starts_with_append ss ts)

pub starts_with_splits : (ss ts : List ℕ) → starts_with ss ts ≡ true → ts ≡ ss ++ drop (length ss) ts
unfolding starts_with
starts_with_splits [] ts e = refl
starts_with_splits (s ∷ ss) [] e = cc
starts_with_splits (s ∷ ss) (t ∷ ts) e =
    let (here, there) = both_true (eqb s t) (starts_with ss ts) e in
    ap₂ {C = List ℕ} (λ x xs. x ∷ xs) (sym (eqb-true s t here)) (starts_with_splits ss ts there)
