-- The first line that uses a literal which isn't defined (01, "The numbers", 7; 02, T-01: "7 now means undefined only, and operands are checked
-- with the late 7s, in file order"). Assumes nothing.
use Rattle.std.specs.Prelude.{ℕ, ◌+◌, ◌<◌, List, [], ◌≡◌, length, get_or}
use Rattle.text.specs.InList.{All, In}
use Rattle.text.specs.Numbers.{not_defined}
use Rattle.text.specs.WellFormed.{Known}

-- of literals used on the lines from a place on, a list for each line, one of this line is neither a constant nor defined, and all before it are
pub record Unknown (defined : List ℕ) (start : ℕ) (ls : List (List ℕ)) (number place : ℕ) : Type 0 where
  pub index : ℕ
  pub within : index < length ls
  pub line : place ≡ start + index
  pub before : (j : ℕ) → j < index → All (Known defined) (get_or ls j [])
  pub literal : ℕ
  pub used : In (get_or ls index []) literal
  pub fault : Known defined literal → ⊥
  pub seven : number ≡ not_defined
