-- What the tables of a certificate store is read back as it was: the region, the replies, the ranks and the attacks. Assumes nothing.
use Prim.Native.Nat.{ℕ, ◌+◌, ◌*◌, ◌%◌, ◌^◌, ◌<◌}
use native.Mathlib.Nat.{mod-eq_of_lt}
use native.Mathlib.Omega.{arith}
use mathlib.Core.Bool.{Bool, false}
use mathlib.Core.List.{List, [], ◌∷◌, ◌++◌}
use mathlib.Core.Path.{◌≡◌, sym, ap, ap₂, ◌∙◌}
use lib.Dec.{eqb}
use lib.ListN.{get_or}
use Rattle.bits.specs.BitBytes.{bit_bytes}
use Rattle.bits.specs.ByteBit.{byte_bit}
use Rattle.bits.specs.Digits.{digits, sum}
use Rattle.bits.proofs.Laws.BitBytes.{bit_is, no_unused_bit}
use Rattle.bits.proofs.Laws.Digits.{sum-digits}
use Rattle.records.specs.AttackTable.{attack_bytes, stored_rank, stored_attack}
use Rattle.records.specs.RegionBits.{region_bytes, holds_state, unused_bit_set}
use Rattle.records.specs.ReplyBytes.{reply_bytes, byte_reply}
use Rattle.records.proofs.Laws.ReplyBytes.{byte_reads}
use Rattle.records.proofs.Laws.Rows.{rows_in_turn, length_row, row_at}

module _ (set : ℕ → Bool) (L : ℕ) where
  pub region_holds : (s : ℕ) → s < 2 ^ L → holds_state (region_bytes set L) L s ≡ set s
  unfolding holds_state region_bytes
  region_holds s h = ap (λ (n : ℕ). eqb (byte_bit (bit_bytes set (2 ^ L)) n) 1) (mod-eq_of_lt h) ∙ bit_is set (2 ^ L) s h

  pub region_unused : unused_bit_set (region_bytes set L) L ≡ false
  unfolding unused_bit_set region_bytes
  region_unused = no_unused_bit set (2 ^ L)

pub reply_back : (replies : ℕ → ℕ → ℕ) (L U s r : ℕ) → s < 2 ^ L → r < 2 ^ U → byte_reply (reply_bytes replies L U) L U s r ≡ replies s r
reply_back replies L U s r h l = byte_reads L U s r replies ∙ ap₂ replies (mod-eq_of_lt h) (mod-eq_of_lt l)

module _ (ranks attacks : ℕ → ℕ) (L s : ℕ) (state : s < 2 ^ L) where
  row : ℕ → List ℕ
  row t = digits 256 2 (ranks t) ++ (attacks t ∷ [])

  in_table : (k : ℕ) → k < 3 → get_or (attack_bytes ranks attacks L) (3 * (s % 2 ^ L) + k) 0 ≡ get_or (row s) k 0
  unfolding attack_bytes row
  in_table k h =
      ap₂ (λ (l : List ℕ) (n : ℕ). get_or l (3 * n + k) 0) (sym (rows_in_turn row (2 ^ L))) (mod-eq_of_lt state)
      ∙ row_at row (length_row ranks attacks) (2 ^ L) s k state h

  pub rank_back : ranks s < 65536 → stored_rank (attack_bytes ranks attacks L) L s ≡ ranks s
  unfolding stored_rank row digits
  rank_back h =
      ap₂ (λ (a b : ℕ). sum 256 (a ∷ b ∷ [])) (ap (λ (n : ℕ). get_or (attack_bytes ranks attacks L) n 0) (omega arith) ∙ in_table 0 (omega arith))
      (in_table 1 (omega arith))
      ∙ sum-digits 256 2 (ranks s) (omega arith)
      ∙ mod-eq_of_lt h

  pub attack_back : stored_attack (attack_bytes ranks attacks L) L s ≡ attacks s
  unfolding stored_attack row digits
  attack_back = in_table 2 (omega arith)
