-- What the tables of a certificate store for a circuit, by its L, U and C (01, "The certificate", kinds 2 to 4; 02, T-07, kind 5). Assumes nothing.
use Rattle.std.specs.Prelude.{ℕ, Bool, List}
use Rattle.circuit.specs.Circuit.{Circuit, latch_count, uncontrollable_count, controllable_count}
use Rattle.records.specs.AttackTable.{stored_rank, stored_attack}
use Rattle.records.specs.RegionBits.{holds_state}
use Rattle.records.specs.ReplyTable.{stored_reply}

abbrev pub held_at : Circuit → (region : List ℕ) → (state : ℕ) → Bool
held_at c region = holds_state region (latch_count c)

abbrev pub reply_at : Circuit → (kind : ℕ) (table : List ℕ) → (state reading : ℕ) → ℕ
reply_at c kind table = stored_reply kind table (latch_count c) (uncontrollable_count c) (controllable_count c)

abbrev pub rank_at : Circuit → (table : List ℕ) → (state : ℕ) → ℕ
rank_at c table = stored_rank table (latch_count c)

abbrev pub attack_at : Circuit → (table : List ℕ) → (state : ℕ) → ℕ
attack_at c table = stored_attack table (latch_count c)
