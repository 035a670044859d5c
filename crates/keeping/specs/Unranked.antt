-- The states that aren't of rank 1 to a bound, by a list of ranks (01, "The game"); and what a search for one that leads to them found. Assumes
-- nothing.
use Rattle.std.specs.Prelude.{ℕ, Bool, Option, Some, None}
use Rattle.game.specs.Rank.{not_ranked}
use Rattle.keeping.specs.RankList.{ranks_in}
use Rattle.keeping.specs.declared.lane.Found.{Found}
use Rattle.keeping.specs.declared.rank_list.Unranked.{Unranked}

abbrev pub set_of : Unranked → (state : ℕ) → Bool
set_of u = not_ranked (ranks_in u.ranks.now) u.bound

-- the number found, or the end of the search
abbrev pub number_or : (end : ℕ) → Option Found → ℕ
number_or end (Some found) = found.number
number_or end None = end
