-- The attacks that a round leaves beside its ranks (01, "The game"): a state that has a rank keeps its attack, one that gets a rank gets the
-- least reading that defeats it in this round. Assumes nothing.
use Rattle.std.specs.Prelude.{ℕ, cond, List, ltb, length, get_or}
use Rattle.below.specs.Least.{least}
use Rattle.below.specs.Table.{table}
use Rattle.game.specs.Game.{Game}
use Rattle.game.specs.Rank.{defeats}
use Rattle.keeping.specs.RankList.{ranks_in}
use Rattle.solver.specs.Over.{found}

unfoldable pub attack_after : Game → (k : ℕ) (ranks : List ℕ) (attack state : ℕ) → ℕ
attack_after g k ranks attack s =
    cond (ltb 0 (ranks_in ranks s)) attack (found (least (defeats g (ranks_in ranks) k s) g.readings) g.readings)

unfoldable pub attacks_after : Game → (states k : ℕ) (ranks attacks : List ℕ) → List ℕ
attacks_after g states k ranks attacks =
    table (λ s. cond (ltb s states) (attack_after g k ranks (get_or attacks s 0) s) (get_or attacks s 0)) (length attacks)
