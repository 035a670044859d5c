-- Reading a passed certificate: what stands behind a table isn't read, and a reply is the stored one inside the stored region, 0 outside.
-- Assumes nothing.
use Prim.Native.Nat.{ℕ, ◌+◌, ◌*◌, ◌/◌, ◌%◌, ◌^◌, ◌<◌}
use native.Mathlib.Nat.{mod-lt, mul_comm}
use native.Mathlib.Omega.{arith}
use mathlib.Core.Bool.{Bool, true, false, cond}
use mathlib.Core.List.{List, [], ◌∷◌}
use mathlib.Core.Path.{◌≡◌, ap, ap₂, ◌∙◌}
use lib.Dec.{eqb}
use lib.ListN.{take}
use lib.Pow.{pow_pos}
use lib.Seq.{get_or-take}
use Rattle.bits.specs.Bit.{bit}
use Rattle.bits.specs.ByteBit.{byte_bit}
use Rattle.bits.specs.Digits.{sum}
use Rattle.bits.proofs.Laws.Packed.{packed_in_front as numbers-in-front}
use Rattle.records.specs.AttackTable.{attack_length, stored_rank, stored_attack}
use Rattle.records.specs.PackedReplies.{packed_length, packed_reply}
use Rattle.records.specs.Passed.{reply_in}
use Rattle.records.specs.Record.{packed_kind}
use Rattle.records.specs.RegionBits.{region_length, holds_state}
use Rattle.records.specs.ReplyBytes.{reply_length, byte_reply}
use Rattle.records.specs.ReplyTable.{table_length, stored_reply}
use Rattle.records.proofs.Laws.ReplyBytes.{reply-place}

module _ (region : List ℕ) (L : ℕ) (stored : ℕ → ℕ → ℕ) (s r : ℕ) where
  pub reply_outside : holds_state region L s ≡ false → reply_in region L stored s r ≡ 0
  unfolding reply_in
  reply_outside e = ap (λ (b : Bool). cond b (stored s r) 0) e

  pub reply-inside : holds_state region L s ≡ true → reply_in region L stored s r ≡ stored s r
  unfolding reply_in
  reply-inside e = ap (λ (b : Bool). cond b (stored s r) 0) e

-- the table is the front of the bytes, of the table's own length
module _ (bytes : List ℕ) (n L s : ℕ) where
  state_below : s % 2 ^ L < 2 ^ L
  state_below = mod-lt s (pow_pos L)

  pub region_in_front : n ≡ region_length L → holds_state (take n bytes) L s ≡ holds_state bytes L s
  unfolding holds_state byte_bit region_length
  region_in_front e = ap (λ (b : ℕ). eqb (bit b (s % 2 ^ L % 8)) 1) (get_or-take n bytes (s % 2 ^ L / 8) 0 (omega (arith, state_below)))

  pub replies_in_front : (U r : ℕ) → n ≡ reply_length L U → byte_reply (take n bytes) L U s r ≡ byte_reply bytes L U s r
  unfolding byte_reply reply_length
  replies_in_front U r e = get_or-take n bytes (s % 2 ^ L * 2 ^ U + r % 2 ^ U) 0 (omega (arith, reply-place L U s r))

  pub packed_in_front : (U C r : ℕ) → n ≡ packed_length L U C → packed_reply (take n bytes) L U C s r ≡ packed_reply bytes L U C s r
  unfolding packed_reply packed_length
  packed_in_front U C r e =
      numbers-in-front bytes C (s % 2 ^ L * 2 ^ U + r % 2 ^ U) (2 ^ (L + U)) n (reply-place L U s r)
      (e ∙ ap (λ (m : ℕ). (m + 7) / 8) (mul_comm C (2 ^ (L + U))))

  -- by the kind of the table
  pub stored_in_front :
      (kind U C r : ℕ) → n ≡ table_length kind L U C → stored_reply kind (take n bytes) L U C s r ≡ stored_reply kind bytes L U C s r
  unfolding stored_reply table_length
  stored_in_front kind U C r e = by (eqb kind packed_kind) e
    where
      by :
          (b : Bool) → n ≡ cond b (packed_length L U C) (reply_length L U)
          → cond b (packed_reply (take n bytes) L U C s r) (byte_reply (take n bytes) L U s r) ≡ cond b (packed_reply bytes L U C s r)
          (byte_reply bytes L U s r)
      by true f = packed_in_front U C r f
      by false f = replies_in_front U r f

  module _ (e : n ≡ attack_length L) where
    pub ranks_in_front : stored_rank (take n bytes) L s ≡ stored_rank bytes L s
    unfolding stored_rank attack_length
    ranks_in_front =
        ap₂ (λ (a b : ℕ). sum 256 (a ∷ b ∷ [])) (get_or-take n bytes (3 * (s % 2 ^ L)) 0 (omega (arith, state_below)))
        (get_or-take n bytes (3 * (s % 2 ^ L) + 1) 0 (omega (arith, state_below)))

    pub attacks_in_front : stored_attack (take n bytes) L s ≡ stored_attack bytes L s
    unfolding stored_attack attack_length
    attacks_in_front = get_or-take n bytes (3 * (s % 2 ^ L) + 2) 0 (omega (arith, state_below))
