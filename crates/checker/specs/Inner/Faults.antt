-- A broken step rule of the stored tables (01, "The numbers", 15), in the game of a net: at one place, and the lowest. Assumes nothing.
use Rattle.std.specs.Prelude.{ℕ, ◌+◌, ◌/◌, ◌%◌, ◌^◌, Bool, cond, List, Option, Some, None}
use Rattle.below.specs.Least.{least, any}
use Rattle.game.specs.Attack.{attack_broken}
use Rattle.game.specs.NetGame.{net_game}
use Rattle.game.specs.Reply.{reply_broken}
use Rattle.net.specs.Net.{net_latches, net_readings, net_controls}
use Rattle.records.specs.AttackTable.{stored_rank, stored_attack}
use Rattle.records.specs.RegionBits.{holds_state}
use Rattle.records.specs.ReplyTable.{stored_reply}

-- the least below n that passes, if one does
abbrev pub lowest : (p : ℕ → Bool) (n : ℕ) → Option ℕ
lowest p n = cond (any p n) (Some (least p n)) None

-- the stored reply to a reading at a state of the stored region breaks it
abbrev pub reply_fault : (net region : List ℕ) (kind : ℕ) (table : List ℕ) (state reading : ℕ) → Bool
reply_fault net region kind table s r =
    reply_broken (net_game net) (holds_state region (net_latches net)) (stored_reply kind table (net_latches net) (net_readings net) (net_controls net)) s r

-- the same at the place s × 2^U + reading
abbrev pub place_fault : (net region : List ℕ) (kind : ℕ) (table : List ℕ) (place : ℕ) → Bool
place_fault net region kind table i = reply_fault net region kind table (i / 2 ^ net_readings net) (i % 2 ^ net_readings net)

abbrev pub first_reply_fault : (net region : List ℕ) (kind : ℕ) (table : List ℕ) → Option ℕ
first_reply_fault net region kind table = lowest (place_fault net region kind table) (2 ^ (net_latches net + net_readings net))

-- the stored attack of a state of a stored rank above 0 breaks it
abbrev pub attack_fault : (net table : List ℕ) (state : ℕ) → Bool
attack_fault net table s = attack_broken (net_game net) (stored_rank table (net_latches net)) (stored_attack table (net_latches net)) s

abbrev pub first_attack_fault : (net table : List ℕ) → Option ℕ
first_attack_fault net table = lowest (attack_fault net table) (2 ^ net_latches net)
