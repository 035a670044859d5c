-- Lanes: 64 truths side by side in a word, lane j at bit j. A block is 64 moves in turn, the move of lane j 64 × block + j. Assumes nothing.
use Rattle.std.specs.Prelude.{ℕ, ◌+◌, ◌*◌, ◌/◌, ◌^◌, Bool, List, get_or}
use Rattle.bits.specs.Bit.{odd}

-- how many lanes a word has
abbrev pub width : ℕ
width = 64

unfoldable pub lane : (word j : ℕ) → Bool
lane w j = odd (w / 2 ^ j)

-- the move in lane j
unfoldable pub move_in : (block j : ℕ) → ℕ
move_in block j = block * width + j

-- a truth for each literal
abbrev pub Truths : Type 0
Truths = ℕ → Bool

-- what words say in lane j, the word of literal l at place l
unfoldable pub lits_in : (words : List ℕ) (j : ℕ) → Truths
lits_in words j = λ l. lane (get_or words l 0) j
