-- Number 14 (01, "The numbers": state 0 not in the region, or of rank 0), as statements. Assumes nothing.
use Rattle.std.specs.Prelude.{ℕ, List, ◌≡◌}
use Rattle.circuit.specs.Circuit.{Circuit}
use Rattle.checker.specs.StoredFor.{rank_at}
use Rattle.checker.specs.StoredRegion.{Holds}

abbrev pub ResetNotHeld : (region : List ℕ) → Type 0
ResetNotHeld region = Holds region 0 → ⊥

abbrev pub ResetOfRankZero : Circuit → (table : List ℕ) → Type 0
ResetOfRankZero c table = rank_at c table 0 ≡ 0
