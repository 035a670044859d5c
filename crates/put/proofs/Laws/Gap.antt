-- What holds of bytes with n taken out at a place: what each byte is, and the bytes in three parts, of which the first and the last are
-- left. Assumes nothing.
use Prim.Native.Nat.{ℕ, ◌+◌, ◌-◌, ◌<◌, ◌≤◌}
use native.Mathlib.Nat.{add-zero}
use native.Mathlib.Decide.{dec_lt}
use native.Mathlib.Omega.{arith}
use mathlib.Core.List.{List, ◌++◌}
use mathlib.Core.Path.{◌≡◌, sym, ap, ◌∙◌}
use lib.ListN.{length, get_or, length-append, get_or-append, get_or-eq_default}
use lib.Seq.{ext_get_or, get_or-append-add}
use borrow.Author.Tests.{le-leb, lt-leb}
use Rattle.below.specs.Table.{table}
use Rattle.below.proofs.Laws.Table.{length_table, get_or_table}
use Rattle.put.specs.Gap.{close_gap}

module _ (bytes : List ℕ) (at n : ℕ) where
  pub length_gap : length (close_gap bytes at n) ≡ length bytes
  unfolding close_gap
  length_gap = length_table _ (length bytes)

  pub gap_past : (i : ℕ) → length bytes ≤ i → get_or (close_gap bytes at n) i 0 ≡ 0
  gap_past i h = get_or-eq_default (close_gap bytes at n) 0 (omega (arith, length_gap))

  pub gap_before : (i : ℕ) → i < at → get_or (close_gap bytes at n) i 0 ≡ get_or bytes i 0
  unfolding close_gap
  gap_before i h = elim (dec_lt i (length bytes)) [
    | yes l ↦ get_or_table _ (length bytes) i 0 l ∙ rw (lt-leb at i h)
    | no l ↦ gap_past i (omega arith) ∙ sym (get_or-eq_default bytes 0 (omega arith))
  ]

  pub gap_behind : (i : ℕ) → at ≤ i → i < length bytes → get_or (close_gap bytes at n) i 0 ≡ get_or bytes (i + n) 0
  unfolding close_gap
  gap_behind i h l = get_or_table _ (length bytes) i 0 l ∙ rw (le-leb at i h)

-- nothing taken out
pub gap_none : (bytes : List ℕ) (at : ℕ) → close_gap bytes at 0 ≡ bytes
gap_none bytes at = ext_get_or 0 (close_gap bytes at 0) bytes (length_gap bytes at 0) each
  where
    each : (i : ℕ) → i < length (close_gap bytes at 0) → get_or (close_gap bytes at 0) i 0 ≡ get_or bytes i 0
    each i h = elim (dec_lt i at) [
      | yes l ↦ gap_before bytes at 0 i l
      | no l ↦ gap_behind bytes at 0 i (omega arith) (omega (arith, length_gap bytes at 0)) ∙ rw add-zero
    ]

-- three parts, the middle one taken out
module _ (a b c : List ℕ) where
  abbrev whole : List ℕ
  whole = a ++ b ++ c

  abbrev closed : List ℕ
  closed = close_gap (a ++ b ++ c) (length a) (length b)

  abbrev zeros : List ℕ
  zeros = table (λ i. 0) (length b)

  long_whole : length whole ≡ length a + length b + length c
  long_whole = simp length-append

  long : length closed ≡ length (a ++ c ++ zeros)
  long = simp length-append (omega (arith, length_gap whole (length a) (length b), long_whole, length_table {A = ℕ} (λ i. 0) (length b)))

  first : (i : ℕ) → i < length a → get_or closed i 0 ≡ get_or (a ++ c ++ zeros) i 0
  first i h =
      gap_before whole (length a) (length b) i h
      ∙ front b c ∙ sym (front c zeros)
    where
      front : (x y : List ℕ) → get_or (a ++ x ++ y) i 0 ≡ get_or a i 0
      front x y = get_or-append (a ++ x) y 0 i (omega (arith, length-append a x)) ∙ get_or-append a x 0 i h

  middle : (k : ℕ) → k < length c → get_or closed (length a + k) 0 ≡ get_or (a ++ c ++ zeros) (length a + k) 0
  middle k h =
      gap_behind whole (length a) (length b) (length a + k) (omega arith) (omega (arith, long_whole))
      ∙ ap (λ (i : ℕ). get_or whole i 0) (omega (arith, length-append a b))
      ∙ get_or-append-add (a ++ b) c k 0
      ∙ sym (get_or-append (a ++ c) zeros 0 (length a + k) (omega (arith, length-append a c)) ∙ get_or-append-add a c k 0)

  last : (k : ℕ) → k < length b → get_or closed (length (a ++ c) + k) 0 ≡ get_or (a ++ c ++ zeros) (length (a ++ c) + k) 0
  last k h =
      gap_behind whole (length a) (length b) (length (a ++ c) + k) (omega (arith, length-append a c)) (omega (arith, length-append a c, long_whole))
      ∙ get_or-eq_default whole 0 (omega (arith, length-append a c, long_whole))
      ∙ sym (get_or-append-add (a ++ c) zeros k 0 ∙ get_or_table {A = ℕ} (λ i. 0) (length b) k 0 h)

  parts : closed ≡ a ++ c ++ zeros
  parts = ext_get_or 0 closed (a ++ c ++ zeros) long each
    where
      at_middle : (i : ℕ) → length a ≤ i → i < length a + length c → get_or closed i 0 ≡ get_or (a ++ c ++ zeros) i 0
      at_middle i h l = let e : length a + (i - length a) ≡ i = omega arith in rw e at (middle (i - length a) (omega arith))

      at_last : (i : ℕ) → length (a ++ c) ≤ i → i < length (a ++ c) + length b → get_or closed i 0 ≡ get_or (a ++ c ++ zeros) i 0
      at_last i h l = let e : length (a ++ c) + (i - length (a ++ c)) ≡ i = omega arith in rw e at (last (i - length (a ++ c)) (omega arith))

      within : (i : ℕ) → i < length closed → i < length (a ++ c) + length b
      within i h = omega (arith, length-append a c, long_whole, length_gap whole (length a) (length b))

      each : (i : ℕ) → i < length closed → get_or closed i 0 ≡ get_or (a ++ c ++ zeros) i 0
      each i h = elim (dec_lt i (length a)) [
        | yes l ↦ first i l
        | no l ↦ elim (dec_lt i (length a + length c)) [
          | yes m ↦ at_middle i (omega arith) m
          | no m ↦ at_last i (omega (arith, length-append a c)) (within i h)
        ]
      ]

pub close_gap-is :
    (a b c : List ℕ) {bytes : List ℕ} {at n : ℕ} → bytes ≡ a ++ b ++ c → length a ≡ at → length b ≡ n
    → close_gap bytes at n ≡ a ++ c ++ table (λ i. 0) n
close_gap-is a b c e f g = rw (e, ← f, ← g) (parts a b c)
