-- The records of a solved circuit, one behind the other, are its certificate. Assumes nothing.
use Rattle.std.proofs.Common.{ℕ, true, false, List, [], ◌++◌, ◌≡◌, ◌∙◌}
use mathlib.Core.List.{append-nil, append_assoc}
use Rattle.circuit.specs.Circuit.{Circuit, latch_count, uncontrollable_count, controllable_count}
use Rattle.game.specs.Attack.{attack}
use Rattle.game.specs.CircuitGame.{circuit_game, is_realizable}
use Rattle.game.specs.Rank.{rank, in_region}
use Rattle.game.specs.Reply.{reply}
use Rattle.records.specs.AttackTable.{attack_bytes}
use Rattle.records.specs.Record.{record_of, circuit_kind, region_kind, attack_kind}
use Rattle.records.specs.RegionBits.{region_bytes}
use Rattle.records.specs.ReplyTable.{table_bytes}
use Rattle.writer.specs.Certificate.{reply_certificate, attack_certificate, certificate_of}
use Rattle.writer.proofs.Laws.Certified.{replies_of, attacks_of}

module _ (kind : ℕ) (file : List ℕ) (c : Circuit) where
  pub replies_in_parts :
      {number : ℕ} {region cells : List ℕ} → is_realizable c ≡ true → region ≡ region_bytes (in_region (circuit_game c)) (latch_count c) → number ≡ kind
      → cells ≡ table_bytes kind (reply (circuit_game c)) (latch_count c) (uncontrollable_count c) (controllable_count c)
      → certificate_of kind file c ≡ record_of circuit_kind file ++ (record_of region_kind region ++ (record_of number cells ++ []))
  unfolding reply_certificate
  replies_in_parts e f g h = replies_of kind file c e ∙ rw (f, g, h) (simp (append-nil, append_assoc))

  pub attacks_in_parts :
      {rows : List ℕ} → is_realizable c ≡ false → rows ≡ attack_bytes (rank (circuit_game c)) (attack (circuit_game c)) (latch_count c)
      → certificate_of kind file c ≡ record_of circuit_kind file ++ (record_of attack_kind rows ++ [])
  unfolding attack_certificate
  attacks_in_parts e f = attacks_of kind file c e ∙ rw f (simp append-nil)
