-- The ranks of a game (01, "The game") as a list, as long as a circuit may have states; 0 behind the last state. And the list of one
-- round, worked out from that of the round before. Assumes nothing.
use Rattle.std.specs.Prelude.{ℕ, ◌^◌, cond, List, ltb}
use Rattle.below.specs.Table.{table}
use Rattle.circuit.specs.Limits.{base}
use Rattle.game.specs.Game.{Game}
use Rattle.game.specs.Rank.{round, rank}
use Rattle.keeping.specs.RankList.{ranks_in}

unfoldable pub rank_table : Game → List ℕ
rank_table g = table (λ s. cond (ltb s g.states) (rank g s) 0) (2 ^ base.latches)

-- round k + 1; what lies behind the last state stays
unfoldable pub round_table : Game → (states k : ℕ) → List ℕ → List ℕ
round_table g states k ranks =
    table (λ s. cond (ltb s states) (round g k (ranks_in ranks) s) (ranks_in ranks s)) (2 ^ base.latches)
