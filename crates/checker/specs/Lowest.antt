-- The place of number 15 (01, "The numbers": lowest s × 2^U + reading, or lowest s in an attack table), as statements. Assumes nothing.
use Rattle.std.specs.Prelude.{ℕ, ◌+◌, ◌*◌, ◌^◌, ◌<◌, ◌≤◌, List, ◌≡◌}
use Rattle.circuit.specs.Circuit.{Circuit, latch_count, uncontrollable_count}
use Rattle.checker.specs.Breaks.{ReplyBreaks, AttackBreaks}

pub record LowestReply (c : Circuit) (region : List ℕ) (kind : ℕ) (table : List ℕ) (place : ℕ) : Type 0 where
  pub state : ℕ
  pub reading : ℕ
  pub is_state : state < 2 ^ latch_count c
  pub is_reading : reading < 2 ^ uncontrollable_count c
  pub at : place ≡ state * 2 ^ uncontrollable_count c + reading
  pub breaks : ReplyBreaks c region kind table state reading
  pub lowest :
      (s r : ℕ) → s < 2 ^ latch_count c → r < 2 ^ uncontrollable_count c → ReplyBreaks c region kind table s r
      → place ≤ s * 2 ^ uncontrollable_count c + r

pub record LowestAttack (c : Circuit) (table : List ℕ) (place : ℕ) : Type 0 where
  pub is_state : place < 2 ^ latch_count c
  pub breaks : AttackBreaks c table place
  pub lowest : (s : ℕ) → s < 2 ^ latch_count c → AttackBreaks c table s → place ≤ s
