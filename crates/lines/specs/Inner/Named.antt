-- The code's marks for positions that are named, one byte for each (01, "The file", rule 5). Assumes nothing.
use Rattle.std.specs.Prelude.{ℕ, ◌+◌, ◌<◌, cond, List, ◌≡◌, eqb, get_or}
use Rattle.below.specs.Among.{among}
use Rattle.text.specs.Header.{Header}
use Rattle.text.specs.Symbol.{Symbol, input_letter, latch_letter, names, positions}

-- where the marks have a letter's position: inputs, then latches, then the outputs
unfoldable pub slot_of : Header → (letter position : ℕ) → ℕ
slot_of h letter position =
    cond (eqb letter input_letter) position
    (cond (eqb letter latch_letter) (h.inputs + position) (h.inputs + h.latches + position))

-- exactly the positions that some symbols name are marked
unfoldable pub Named : Header → List ℕ → List Symbol → Type 0
Named h marks seen =
    (letter position : ℕ) → position < positions h letter
    → eqb (get_or marks (slot_of h letter position) 0) 1 ≡ among (names letter position) seen
