-- Words that hold a block of a net's moves, evaluated, whatever stood in them before. Assumes nothing.
use Rattle.std.specs.Prelude.{ℕ, ◌<◌, List, ◌≡◌}
use Rattle.blocks.specs.Evaluated.{evaluated}
use Rattle.blocks.specs.Lane.{Truths, width, move_in, lits_in}

abbrev pub Holding : (net : List ℕ) (block : ℕ) (words : List ℕ) → Type 0
Holding net block words = (j : ℕ) → j < width → (before : Truths) × (lits_in words j ≡ evaluated net (move_in block j) before)
