-- A broken step rule (01, "The certificate", what passes; "The numbers", 15), at one place, as statements. Assumes nothing.
use Rattle.std.specs.Prelude.{ℕ, ◌^◌, ◌<◌, ◌≤◌, true, false, List, ◌≡◌}
use Rattle.circuit.specs.Circuit.{Circuit, uncontrollable_count, controllable_count}
use Rattle.step.specs.Step.{step}
use Rattle.checker.specs.StoredFor.{reply_at, rank_at, attack_at}
use Rattle.checker.specs.StoredRegion.{Holds}

-- at a state of the stored region the reply isn't below 2^C, gives error 1 or leads out of the stored region
pub data ReplyBreaks (c : Circuit) (region : List ℕ) (kind : ℕ) (table : List ℕ) (s r : ℕ) : Type 0 where
  no_control : Holds region s → 2 ^ controllable_count c ≤ reply_at c kind table s r → ReplyBreaks c region kind table s r
  errs : Holds region s → (step c s r (reply_at c kind table s r)).error ≡ true → ReplyBreaks c region kind table s r
  leads_out : Holds region s → (Holds region (step c s r (reply_at c kind table s r)).next → ⊥) → ReplyBreaks c region kind table s r

-- a next state of rank 1 to k − 1, where k is a state's rank
abbrev pub RankFalls : Circuit → (table : List ℕ) → (state next : ℕ) → Type 0
RankFalls c table s t = (1 ≤ rank_at c table t) × (rank_at c table t < rank_at c table s)

-- at a state of rank above 0 the attack isn't below 2^U, or some control gives error 0 and no next state of rank 1 to k − 1
pub data AttackBreaks (c : Circuit) (table : List ℕ) (s : ℕ) : Type 0 where
  no_reading : 0 < rank_at c table s → 2 ^ uncontrollable_count c ≤ attack_at c table s → AttackBreaks c table s
  escapes :
      0 < rank_at c table s → (k : ℕ) → k < 2 ^ controllable_count c
      → (step c s (attack_at c table s) k).error ≡ false
      → (RankFalls c table s (step c s (attack_at c table s) k).next → ⊥)
      → AttackBreaks c table s
