-- What a look, the rounds and the replies answer (01, "The game"); over lists that stand for the code's. Assumes nothing.
use Rattle.std.specs.Prelude.{ℕ, ◌*◌, ◌/◌, ◌%◌, ◌^◌, ◌<◌, ◌≤◌, Bool, cond, List, Option, ◌≡◌, IfSome, ltb, unwrap_or}
use Rattle.below.specs.Least.{least}
use Rattle.below.specs.LeastFrom.{least_from}
use Rattle.below.specs.Table.{table}
use Rattle.circuit.specs.Limits.{base}
use Rattle.game.specs.Game.{Game}
use Rattle.game.specs.NetGame.{net_game}
use Rattle.keeping.specs.RankList.{ranks_in}
use Rattle.keeping.specs.Unranked.{number_or}
use Rattle.keeping.specs.declared.lane.Found.{Found}
use Rattle.net.specs.Net.{net_readings}
use Rattle.solver.specs.Over.{reply_over}
use Rattle.solver.specs.RankTable.{rank_table}
use Rattle.solver.specs.Solution.{attack_table}
use Rattle.solver.specs.Inner.Moves.{move_keeps, places}

-- the least number below n that passes, if one does
pub record LeastBelow (test : ℕ → Bool) (n : ℕ) (found : Option ℕ) : Type 0 where
  pub least : unwrap_or found n ≡ least test n
  pub within : IfSome found (λ i. i < n)

-- the least move from a number on, below an end, that keeps, if one does, and where it leads
pub record MoveFrom (net : List ℕ) (set : ℕ → Bool) (from end : ℕ) (found : Option Found) : Type 0 where
  pub number : number_or end found ≡ least_from (move_keeps net set) from end
  pub within : IfSome found (λ move. move.number < end)
  pub leads : IfSome found (λ move. (these : ℕ → Bool) → move_keeps net these move.number ≡ these move.lead)

-- the ranks and the attacks after the last round
pub record Ended (g : Game) (ranks attacks : List ℕ) : Type 0 where
  pub ranks_are : ranks ≡ rank_table g
  pub attacks_are : attacks ≡ attack_table g
  pub low : (t : ℕ) → ranks_in ranks t ≤ 2 ^ base.latches

-- the reply at a place, over a list of ranks
abbrev pub reply_at : (net ranks : List ℕ) (place : ℕ) → ℕ
reply_at net ranks place = reply_over (net_game net) ranks (place / 2 ^ net_readings net) (place % 2 ^ net_readings net)

-- those of all places; 0 behind the last
abbrev pub replies_over : (net ranks : List ℕ) → List ℕ
replies_over net ranks = table (λ i. cond (ltb i (places net)) (reply_at net ranks i) 0) (2 ^ base.latches * 2 ^ base.uncontrollable)
