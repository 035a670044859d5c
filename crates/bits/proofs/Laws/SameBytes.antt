-- The test of the same bytes, decided: lists that are equal pass it, and lists that aren't don't. Assumes nothing.
use Prim.Native.Nat.{ℕ}
use lib.Dec.{eqb}
use mathlib.Core.Bool.{Bool, true, ◌&&◌}
use mathlib.Core.List.{List, [], ◌∷◌}
use Rattle.std.specs.Cmp.Lexicographic.{pointwise}
use mathlib.Core.Path.{◌≡◌, refl, sym, ap, ◌∙◌}
use Rattle.bits.specs.Bytes.{same_bytes}
use Rattle.bits.proofs.Laws.Bytes.{same_bytes_refl}

pub equal_same_bytes : (ss ts : List ℕ) → ss ≡ ts → same_bytes ss ts ≡ true
equal_same_bytes ss ts e = ap (same_bytes ss) (sym e) ∙ same_bytes_refl ss

-- list by list as `==` takes them
pub pointwise_same : (ss ts : List ℕ) → pointwise eqb ss ts ≡ same_bytes ss ts
unfolding same_bytes
pointwise_same [] [] = refl
pointwise_same [] (t ∷ ts) = refl
pointwise_same (s ∷ ss) [] = refl
pointwise_same (s ∷ ss) (t ∷ ts) = ap (λ (b : Bool). eqb s t && b) (pointwise_same ss ts)
