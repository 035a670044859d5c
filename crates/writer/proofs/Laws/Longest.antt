-- The longest certificate has 49,298 bytes, with packed replies too (01, "The certificate"; 02, T-07). Assumes nothing.
use Prim.Native.Nat.{ℕ, ◌+◌, ◌*◌, ◌/◌, ◌^◌, ◌≤◌}
use native.Mathlib.Nat.{mul-le-mul_right}
use native.Mathlib.Omega.{arith}
use mathlib.Core.Bool.{Bool, true, false, cond}
use mathlib.Core.List.{List}
use mathlib.Core.Path.{◌≡◌, subst, sym}
use lib.Dec.{eqb}
use lib.ListN.{length}
use lib.Pow.{pow_mono}
use Rattle.circuit.specs.Circuit.{Circuit, latch_count, uncontrollable_count, controllable_count}
use Rattle.circuit.specs.Limits.{base}
use Rattle.circuit.specs.Outcome.{taken}
use Rattle.file.specs.CircuitIn.{circuit_in}
use Rattle.game.specs.CircuitGame.{is_realizable}
use Rattle.records.specs.PackedReplies.{packed_length}
use Rattle.records.specs.Record.{packed_kind}
use Rattle.records.specs.ReplyBytes.{reply_length}
use Rattle.records.specs.ReplyTable.{table_length}
use Rattle.writer.specs.Certificate.{certificate_of}
use Rattle.writer.proofs.Laws.Length.{front_length, table_for, certificate_length}
use Rattle.file.proofs.Laws.Within.{Within, read_within}

-- no table of replies is longer than one of bytes
pub bytes_longest : (kind L U C : ℕ) → C ≤ base.controllable → table_length kind L U C ≤ 2 ^ (L + U)
unfolding table_length packed_length reply_length
bytes_longest kind L U C h = by (eqb kind packed_kind)
  where
    by : (b : Bool) → cond b ((C * 2 ^ (L + U) + 7) / 8) (2 ^ (L + U)) ≤ 2 ^ (L + U)
    by true = omega (arith, mul-le-mul_right {m = C} {n = base.controllable} (2 ^ (L + U)) h)
    by false = omega arith

pub longest_certificate : (kind : ℕ) (file : List ℕ) (c : Circuit) → circuit_in file ≡ taken c → length (certificate_of kind file c) ≤ 49298
longest_certificate kind file c e = subst (λ (n : ℕ). n ≤ 49298) (sym (certificate_length file c kind)) (by (is_realizable c))
  where
    within : Within file c
    within = read_within file c e

    latches : 2 ^ latch_count c ≤ 2 ^ base.latches
    latches = pow_mono within.few_latches

    places : 2 ^ (latch_count c + uncontrollable_count c) ≤ 2 ^ (base.latches + base.uncontrollable)
    places =
        pow_mono {i = latch_count c + uncontrollable_count c} {j = base.latches + base.uncontrollable}
        (omega (arith, within.few_latches, within.few_readings))

    by : (b : Bool) → cond b (front_length file c + table_for file c kind) (12 + length file + 3 * 2 ^ latch_count c) ≤ 49298
    by true =
        omega (
          arith,
          within.short,
          latches,
          places,
          bytes_longest kind (latch_count c) (uncontrollable_count c) (controllable_count c) within.few_controls,
        )
    by false = omega (arith, within.short, latches)
