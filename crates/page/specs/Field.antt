-- A number behind a space (01, "Listings to compare"). Assumes nothing.
use Rattle.std.specs.Prelude.{ℕ, List, ◌∷◌}
use Rattle.text.specs.Number.{decimal}

abbrev pub field : ℕ → List ℕ
field n = 32 ∷ decimal n
