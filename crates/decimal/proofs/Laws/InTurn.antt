-- The texts of the rows of a table stand one behind the other. Assumes nothing.
use Prim.Native.Nat.{ℕ, zero, suc}
use mathlib.Core.List.{List, [], ◌∷◌, ◌++◌, flat_map, append_assoc, append-nil}
use mathlib.Core.Path.{◌≡◌, refl, sym, ap, ap₂, ◌∙◌}
use Rattle.below.specs.Table.{table}
use Rattle.bits.specs.InTurn.{in_turn}

module _ {A : Type 0} where
  pub flat_map_append : (f : A → List ℕ) (xs ys : List A) → flat_map f (xs ++ ys) ≡ flat_map f xs ++ flat_map f ys
  unfolding flat_map
  flat_map_append f [] ys = refl
  flat_map_append f (x ∷ xs) ys = ap (λ (l : List ℕ). f x ++ l) (flat_map_append f xs ys) ∙ sym (append_assoc (f x) (flat_map f xs) (flat_map f ys))

  flat_map_one : (f : A → List ℕ) (x : A) → flat_map f (x ∷ []) ≡ f x
  unfolding flat_map
  flat_map_one f x = append-nil (f x)

  pub flat_map_table : (f : A → List ℕ) (row : ℕ → A) (n : ℕ) → flat_map f (table row n) ≡ in_turn (λ i. f (row i)) n
  unfolding table in_turn flat_map
  flat_map_table f row zero = refl
  flat_map_table f row (suc n) =
      flat_map_append f (table row n) (row n ∷ []) ∙ ap₂ {C = List ℕ} (λ xs ys. xs ++ ys) (flat_map_table f row n) (flat_map_one f (row n))
