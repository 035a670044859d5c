-- The lengths of certificates (01, "The certificate"; 02, T-07): 18 + n + ceil(2^L / 8) and the replies, 2^(L+U) bytes or, packed,
-- ceil(C × 2^(L+U) / 8); or 12 + n + 3 × 2^L. Assumes nothing.
use Prim.Native.Nat.{ℕ, ◌+◌, ◌*◌, ◌/◌, ◌^◌}
use native.Mathlib.Omega.{arith}
use mathlib.Core.Bool.{Bool, true, false, cond}
use mathlib.Core.List.{List}
use mathlib.Core.Path.{◌≡◌}
use lib.ListN.{length, length-append}
use Rattle.circuit.specs.Circuit.{Circuit, latch_count, uncontrollable_count, controllable_count}
use Rattle.game.specs.CircuitGame.{is_realizable}
use Rattle.records.specs.AttackTable.{attack_length}
use Rattle.records.specs.PackedReplies.{packed_length}
use Rattle.records.specs.Record.{reply_kind, packed_kind}
use Rattle.records.specs.RegionBits.{region_length}
use Rattle.records.specs.ReplyBytes.{reply_length}
use Rattle.records.specs.ReplyTable.{table_length}
use Rattle.records.proofs.Laws.Lengths.{length_record, length_region, length_attacks}
use Rattle.records.proofs.Laws.ReplyTable.{length-table_bytes}
use Rattle.writer.specs.Certificate.{reply_certificate, attack_certificate, certificate_of}

module _ (file : List ℕ) (c : Circuit) where
  -- what stands before the replies
  abbrev pub front_length : ℕ
  front_length = 18 + length file + (2 ^ latch_count c + 7) / 8

  abbrev pub table_for : (kind : ℕ) → ℕ
  table_for kind = table_length kind (latch_count c) (uncontrollable_count c) (controllable_count c)

  pub reply_length_lem : (kind : ℕ) → length (reply_certificate kind file c) ≡ front_length + table_for kind
  unfolding reply_certificate region_length
  reply_length_lem kind = simp (length-append, length_record, length_region, length-table_bytes) (omega arith)

  pub byte_length : length (reply_certificate reply_kind file c) ≡ front_length + 2 ^ (latch_count c + uncontrollable_count c)
  unfolding table_length reply_length
  byte_length = reply_length_lem reply_kind

  pub packed_length_lem : length (reply_certificate packed_kind file c) ≡ front_length
      + (controllable_count c * 2 ^ (latch_count c + uncontrollable_count c) + 7) / 8
  unfolding table_length packed_length
  packed_length_lem = reply_length_lem packed_kind

  pub attack_length_lem : length (attack_certificate file c) ≡ 12 + length file + 3 * 2 ^ latch_count c
  unfolding attack_certificate attack_length
  attack_length_lem = simp (length-append, length_record, length_attacks) (omega arith)

  -- how long the certificate of a circuit is
  pub certificate_length :
      (kind : ℕ)
      → length (certificate_of kind file c) ≡ cond (is_realizable c) (front_length + table_for kind) (12 + length file + 3 * 2 ^ latch_count c)
  unfolding certificate_of
  certificate_length kind = by (is_realizable c)
    where
      by :
          (b : Bool)
          → length (cond b (reply_certificate kind file c) (attack_certificate file c))
          ≡ cond b (front_length + table_for kind) (12 + length file + 3 * 2 ^ latch_count c)
      by true = reply_length_lem kind
      by false = attack_length_lem
