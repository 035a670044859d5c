-- Number 13 (01, "The numbers": kind 2, 3 or 4 of wrong length, or unused region bit 1; 02, T-07: also kind 5 of wrong length or with an
-- unused bit 1), as statements. Assumes nothing.
use Rattle.std.specs.Prelude.{ℕ, ◌+◌, ◌*◌, ◌^◌, ◌<◌, ◌≤◌, List, ◌≡◌, length}
use Rattle.bits.specs.ByteBit.{byte_bit}
use Rattle.circuit.specs.Circuit.{Circuit, latch_count, uncontrollable_count, controllable_count}
use Rattle.records.specs.AttackTable.{attack_length}
use Rattle.records.specs.Record.{packed_kind}
use Rattle.records.specs.RegionBits.{region_length}
use Rattle.records.specs.ReplyTable.{table_length}

-- of a reply certificate
pub data WrongReplies (c : Circuit) (region : List ℕ) (kind : ℕ) (table : List ℕ) : Type 0 where
  bad_region_length : (length region ≡ region_length (latch_count c) → ⊥) → WrongReplies c region kind table
  bad_reply_length :
      (length table ≡ table_length kind (latch_count c) (uncontrollable_count c) (controllable_count c) → ⊥)
      → WrongReplies c region kind table
  unused_in_region :
      (i : ℕ) → 2 ^ latch_count c ≤ i → i < 8 * length region → byte_bit region i ≡ 1
      → WrongReplies c region kind table
  unused_in_replies :
      kind ≡ packed_kind → (i : ℕ) → controllable_count c * 2 ^ (latch_count c + uncontrollable_count c) ≤ i → i < 8 * length table
      → byte_bit table i ≡ 1
      → WrongReplies c region kind table

-- of an attack certificate
abbrev pub WrongAttacks : Circuit → (table : List ℕ) → Type 0
WrongAttacks c table = length table ≡ attack_length (latch_count c) → ⊥
