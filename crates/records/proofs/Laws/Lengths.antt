-- The lengths of a record and of the three tables (01, "The certificate"). Assumes nothing.
use Prim.Native.Nat.{ℕ, ◌+◌, ◌^◌}
use native.Mathlib.Omega.{arith}
use mathlib.Core.Bool.{Bool}
use mathlib.Core.List.{List, [], ◌∷◌, ◌++◌}
use mathlib.Core.Path.{◌≡◌, sym, ap, ◌∙◌}
use lib.ListN.{length, length-append}
use Rattle.below.proofs.Laws.Table.{length_table}
use Rattle.bits.specs.Digits.{digits}
use Rattle.bits.proofs.Laws.BitBytes.{length-bit_bytes}
use Rattle.bits.proofs.Laws.Digits.{length_digits}
use Rattle.records.specs.AttackTable.{attack_bytes, attack_length}
use Rattle.records.specs.Record.{record_of, head_length}
use Rattle.records.specs.RegionBits.{region_bytes, region_length}
use Rattle.records.specs.ReplyBytes.{reply_bytes, reply_length}
use Rattle.records.proofs.Laws.Rows.{rows_in_turn, length_row, length_rows}

pub length_record : (kind : ℕ) (contents : List ℕ) → length (record_of kind contents) ≡ head_length + length contents
unfolding record_of
length_record kind contents =
    length-append (digits 256 4 (length contents) ++ digits 256 2 kind) contents
    ∙ omega (arith, length-append (digits 256 4 (length contents)) (digits 256 2 kind), length_digits 256 4 (length contents), length_digits 256 2 kind)

pub length_region : (set : ℕ → Bool) (L : ℕ) → length (region_bytes set L) ≡ region_length L
unfolding region_bytes region_length
length_region set L = length-bit_bytes set (2 ^ L)

pub length_replies : (replies : ℕ → ℕ → ℕ) (L U : ℕ) → length (reply_bytes replies L U) ≡ reply_length L U
unfolding reply_bytes
length_replies replies L U = length_table _ (reply_length L U)

pub length_attacks : (ranks attacks : ℕ → ℕ) (L : ℕ) → length (attack_bytes ranks attacks L) ≡ attack_length L
unfolding attack_bytes attack_length
length_attacks ranks attacks L =
    sym (ap length (rows_in_turn (λ s. digits 256 2 (ranks s) ++ (attacks s ∷ [])) (2 ^ L)))
    ∙ length_rows (λ s. digits 256 2 (ranks s) ++ (attacks s ∷ [])) (length_row ranks attacks) (2 ^ L)
