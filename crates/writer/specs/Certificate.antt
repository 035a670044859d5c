-- The certificate of a circuit (01, "The certificate"; 02, T-07): kinds 1, 2 and a reply record of a given kind if it is realizable, kinds 1, 4
-- if not; and what a writer writes into a buffer of a given length (01, "The numbers", 10). Assumes nothing.
use Rattle.std.specs.Prelude.{ℕ, cond, List, ◌++◌}
use Rattle.circuit.specs.Answer.{fitted}
use Rattle.circuit.specs.Circuit.{Circuit, latch_count, uncontrollable_count, controllable_count}
use Rattle.circuit.specs.Outcome.{Outcome, ◌>>=◌}
use Rattle.file.specs.CircuitIn.{circuit_in}
use Rattle.game.specs.Attack.{attack}
use Rattle.game.specs.CircuitGame.{circuit_game, is_realizable}
use Rattle.game.specs.Rank.{rank, in_region}
use Rattle.game.specs.Reply.{reply}
use Rattle.records.specs.AttackTable.{attack_bytes}
use Rattle.records.specs.Record.{record_of, circuit_kind, region_kind, attack_kind}
use Rattle.records.specs.RegionBits.{region_bytes}
use Rattle.records.specs.ReplyTable.{table_bytes}

unfoldable pub reply_certificate : (kind : ℕ) → List ℕ → Circuit → List ℕ
reply_certificate kind file c =
    record_of circuit_kind file
    ++ record_of region_kind (region_bytes (in_region (circuit_game c)) (latch_count c))
    ++ record_of kind (table_bytes kind (reply (circuit_game c)) (latch_count c) (uncontrollable_count c) (controllable_count c))

unfoldable pub attack_certificate : List ℕ → Circuit → List ℕ
attack_certificate file c =
    record_of circuit_kind file
    ++ record_of attack_kind (attack_bytes (rank (circuit_game c)) (attack (circuit_game c)) (latch_count c))

unfoldable pub certificate_of : (kind : ℕ) → List ℕ → Circuit → List ℕ
certificate_of kind file c = cond (is_realizable c) (reply_certificate kind file c) (attack_certificate file c)

-- what is written for a file, given room for so many bytes
unfoldable pub certified : (kind : ℕ) → List ℕ → ℕ → Outcome (List ℕ)
certified kind file room = circuit_in file >>= λ c. fitted (certificate_of kind file c) room
