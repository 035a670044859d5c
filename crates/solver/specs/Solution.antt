-- What the solver answers of a game (01, "The game"): its ranks, replies and attacks as lists, as long as a circuit may have them; 0 behind
-- the last. A reply stands at index s × 2^U + reading. Assumes nothing.
use Rattle.std.specs.Prelude.{ℕ, ◌*◌, ◌/◌, ◌%◌, ◌^◌, cond, List, ltb}
use Rattle.below.specs.Table.{table}
use Rattle.circuit.specs.Limits.{base}
use Rattle.game.specs.Attack.{attack}
use Rattle.game.specs.Game.{Game}
use Rattle.game.specs.Reply.{reply}
use Rattle.solver.specs.RankTable.{rank_table}
use Rattle.solver.specs.declared.Solution.{Solution}

unfoldable pub reply_table : Game → List ℕ
reply_table g =
    table
    (λ i. cond (ltb i (g.states * g.readings)) (reply g (i / g.readings) (i % g.readings)) 0)
    (2 ^ base.latches * 2 ^ base.uncontrollable)

unfoldable pub attack_table : Game → List ℕ
attack_table g = table (λ s. cond (ltb s g.states) (attack g s) 0) (2 ^ base.latches)

unfoldable pub solution_of : Game → Solution
solution_of g = record { ranks = rank_table g; replies = reply_table g; attacks = attack_table g }
