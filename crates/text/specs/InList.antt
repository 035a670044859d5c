-- Each element of a list, each two of them, and standing in a list: the words of the rules (01, "The file"). Assumes nothing.
use Rattle.std.specs.Prelude.{List, [], ◌∷◌, ◌⊎◌, ◌≡◌}

module _ {A : Type 0} where
  -- each element of a list
  abbrev pub All : (A → Type 0) → List A → Type 0
  All P [] = Unit {0}
  All P (x ∷ xs) = P x × All P xs

  -- each element with each that stands behind it
  abbrev pub Pairs : (A → A → Type 0) → List A → Type 0
  Pairs R [] = Unit {0}
  Pairs R (x ∷ xs) = All (R x) xs × Pairs R xs

  -- it stands in a list
  abbrev pub In : List A → A → Type 0
  In [] a = ⊥
  In (x ∷ xs) a = (x ≡ a) ⊎ In xs a
