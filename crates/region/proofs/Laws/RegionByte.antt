-- The region of the first states, one state more each time, and its first bytes. Assumes nothing.
use Prim.Native.Nat.{ℕ, ◌+◌, ◌*◌, ◌/◌, ◌%◌, ◌^◌, ◌<◌, ◌≤◌, min}
use native.Mathlib.Omega.{arith}
use native.Mathlib.Decide.{dec_lt, ℕ_discrete}
use mathlib.Core.Bool.{Bool, ◌&&◌}
use mathlib.Core.List.{List}
use mathlib.Core.Path.{◌≡◌, sym, ap, ◌∙◌, subst}
use lib.Dec.{ltb}
use lib.ListN.{length, get_or, set, take, length-set}
use lib.Pow.{pow_pos}
use lib.Seq.{ext_get_or, get_or-set_same, get_or-set_other}
use borrow.Author.Tests.{lt-ltb, le-ltb}
use Rattle.below.specs.Table.{table}
use Rattle.below.proofs.Laws.Table.{length_table, get_or_table, table_same}
use Rattle.below.proofs.Laws.Take.{take_table}
use Rattle.bits.specs.Bit.{bit, one_if, with_bit}
use Rattle.bits.specs.BitBytes.{bit_byte}
use Rattle.bits.specs.ByteBit.{with_byte_bit}
use Rattle.bits.specs.Digits.{sum, AllBelow}
use Rattle.bits.proofs.Laws.Bit.{bit-sum, bit_high, bits_decide, bit_with_same, bit_with_other, with_bit_below, one_if_below}
use Rattle.bits.proofs.Laws.Digits.{all_below_of, sum_below}
use Rattle.circuit.specs.Limits.{base}
use Rattle.region.specs.RegionTable.{region_table}

-- how many bytes
abbrev bytes : ℕ
bytes = 2 ^ base.latches / 8

module _ (f : ℕ → Bool) where
  -- one of the bits of so many states
  state_bit : (n i : ℕ) → ℕ
  state_bit n i = one_if (ltb i n && f i)

  bit_more : (n i : ℕ) → (i ≡ n → ⊥) → state_bit n i ≡ state_bit (n + 1) i
  unfolding state_bit
  bit_more n i d = elim (dec_lt i n) [
    | yes h ↦ ap (λ (b : Bool). one_if (b && f i)) (lt-ltb i n h ∙ sym (lt-ltb i (n + 1) (omega arith)))
    | no h ↦ ap (λ (b : Bool). one_if (b && f i)) (le-ltb i n (omega arith) ∙ sym (le-ltb i (n + 1) (omega (arith, h, d))))
  ]

  bit_last : (n i : ℕ) → i ≡ n → one_if (f n) ≡ state_bit (n + 1) i
  unfolding state_bit
  bit_last n i e = rw (e, lt-ltb n (n + 1) (omega arith))

  bit_none : (i : ℕ) → state_bit 0 i ≡ 0
  unfolding state_bit one_if
  bit_none i = rw (le-ltb i 0 (omega arith))

  -- the bits of a byte
  eight : (n j : ℕ) → List ℕ
  eight n j = table (λ k. one_if (ltb (8 * j + k) n && f (8 * j + k))) 8

  eight_long : (n j : ℕ) → length (eight n j) ≡ 8
  unfolding eight
  eight_long n j = length_table (λ k. one_if (ltb (8 * j + k) n && f (8 * j + k))) 8

  eight_at : (n j k : ℕ) → k < 8 → get_or (eight n j) k 0 ≡ state_bit n (8 * j + k)
  unfolding eight state_bit
  eight_at n j k h = get_or_table (λ k. one_if (ltb (8 * j + k) n && f (8 * j + k))) 8 k 0 h

  eight_small : (n j : ℕ) → AllBelow 2 (eight n j)
  unfolding state_bit
  eight_small n j = all_below_of 2 (eight n j) (λ i l. rw (eight_at n j i (omega (arith, eight_long n j))) (one_if_below _))

  bit_of_byte : (n j k : ℕ) → k < 8 → bit (bit_byte f n j) k ≡ state_bit n (8 * j + k)
  unfolding bit_byte eight
  bit_of_byte n j k h = bit-sum (eight n j) k (eight_small n j) (omega (arith, eight_long n j)) ∙ eight_at n j k h

  byte_below : (n j : ℕ) → bit_byte f n j < 2 ^ 8
  unfolding bit_byte eight
  byte_below n j = subst (λ (m : ℕ). bit_byte f n j < 2 ^ m) (eight_long n j) (sum_below 2 (eight n j) (eight_small n j))

  byte_none : (j : ℕ) → 0 ≡ bit_byte f 0 j
  byte_none j = bits_decide 8 0 (bit_byte f 0 j) (omega arith) (byte_below 0 j)
      (λ k h. bit_high 0 k (pow_pos k) ∙ sym (bit_of_byte 0 j k h ∙ bit_none (8 * j + k)))

  byte_other : (n j : ℕ) → (j ≡ n / 8 → ⊥) → bit_byte f n j ≡ bit_byte f (n + 1) j
  unfolding bit_byte state_bit
  byte_other n j d = ap (sum 2) (table_same _ _ 8 (λ k h. bit_more n (8 * j + k) (λ e. d (omega (arith, e)))))

  byte_here : (n : ℕ) → with_bit (bit_byte f n (n / 8)) (n % 8) (f n) ≡ bit_byte f (n + 1) (n / 8)
  byte_here n = bits_decide 8 _ _ (with_bit_below (bit_byte f n (n / 8)) (n % 8) 8 (f n) (byte_below n (n / 8)) (omega arith)) (byte_below (n + 1) (n / 8)) each
    where
      each : (k : ℕ) → k < 8 → bit (with_bit (bit_byte f n (n / 8)) (n % 8) (f n)) k ≡ bit (bit_byte f (n + 1) (n / 8)) k
      each k h = elim (ℕ_discrete k (n % 8)) [
        | yes e ↦ rw e (bit_with_same (bit_byte f n (n / 8)) (n % 8) (f n) ∙ bit_last n (8 * (n / 8) + n % 8) (omega arith))
            ∙ ap (λ (i : ℕ). state_bit (n + 1) (8 * (n / 8) + i)) (sym e) ∙ sym (bit_of_byte (n + 1) (n / 8) k h)
        | no d ↦ bit_with_other (bit_byte f n (n / 8)) (n % 8) k (f n) d ∙ bit_of_byte n (n / 8) k h
            ∙ bit_more n (8 * (n / 8) + k) (λ e. d (omega (arith, e))) ∙ sym (bit_of_byte (n + 1) (n / 8) k h)
      ]

  -- no state
  pub region_none : table (λ i. 0) bytes ≡ region_table f 0
  unfolding region_table
  region_none = table_same (λ i. 0) (bit_byte f 0) bytes (λ j h. byte_none j)

  -- one state more
  pub region_more : (n : ℕ) → n < 2 ^ base.latches → with_byte_bit (region_table f n) n (f n) ≡ region_table f (n + 1)
  unfolding region_table with_byte_bit
  region_more n h = ext_get_or 0 (set before (n / 8) byte) (table (bit_byte f (n + 1)) bytes)
      (length-set before (n / 8) byte ∙ long n ∙ sym (long (n + 1))) (λ j l. at j (omega (arith, length-set before (n / 8) byte, long n)))
    where
      before : List ℕ
      before = table (bit_byte f n) bytes

      byte : ℕ
      byte = with_bit (get_or before (n / 8) 0) (n % 8) (f n)

      long : (m : ℕ) → length (table (bit_byte f m) bytes) ≡ bytes
      long m = length_table (bit_byte f m) bytes

      here : byte ≡ bit_byte f (n + 1) (n / 8)
      here = ap (λ (b : ℕ). with_bit b (n % 8) (f n)) (get_or_table (bit_byte f n) bytes (n / 8) 0 (omega arith)) ∙ byte_here n

      at : (j : ℕ) → j < bytes → get_or (set before (n / 8) byte) j 0 ≡ get_or (table (bit_byte f (n + 1)) bytes) j 0
      at j l = elim (ℕ_discrete j (n / 8)) [
        | yes e ↦ rw e (get_or-set_same before (n / 8) byte 0 (omega (arith, long n)) ∙ here
            ∙ sym (get_or_table (bit_byte f (n + 1)) bytes (n / 8) 0 (omega arith)))
        | no d ↦ get_or-set_other before (n / 8) j byte 0 d ∙ get_or_table (bit_byte f n) bytes j 0 l ∙ byte_other n j d
            ∙ sym (get_or_table (bit_byte f (n + 1)) bytes j 0 l)
      ]

  -- those behind the last that a circuit may have aren't there
  pub region_all : (states : ℕ) → region_table f (min states (2 ^ base.latches)) ≡ region_table f states
  unfolding region_table bit_byte
  region_all states = table_same _ _ bytes (λ j h. ap (sum 2) (table_same _ _ 8 (λ k l. ap (λ (b : Bool). one_if (b && f (8 * j + k)))
      (same (8 * j + k) (omega arith)))))
    where
      same : (i : ℕ) → i < 2 ^ base.latches → ltb i (min states (2 ^ base.latches)) ≡ ltb i states
      same i h = elim (dec_lt i states) [
        | yes l ↦ lt-ltb i (min states (2 ^ base.latches)) (omega arith) ∙ sym (lt-ltb i states l)
        | no l ↦ le-ltb i (min states (2 ^ base.latches)) (omega arith) ∙ sym (le-ltb i states (omega arith))
      ]

-- the first bytes of a region
pub region_front : (set : ℕ → Bool) (states n : ℕ) → n ≤ 2 ^ base.latches / 8 → take n (region_table set states) ≡ table (bit_byte set states) n
unfolding region_table
region_front set states n h = take_table (bit_byte set states) (2 ^ base.latches / 8) n h
