-- A gap that is closed by moving what lies behind it and filling the end: a place behind the bytes and a gap that goes past them count as far as the
-- bytes go. Assumes nothing.
use Prim.Native.Nat.{ℕ, ◌+◌, ◌-◌, ◌<◌, ◌≤◌, min}
use native.Mathlib.Decide.{dec_lt}
use native.Mathlib.Omega.{arith}
use mathlib.Core.Bool.{cond}
use mathlib.Core.List.{List, ◌++◌, append_assoc, append-nil}
use mathlib.Core.Path.{◌≡◌, sym, ap, ap₂, ◌∙◌}
use borrow.Author.Tests.{le-leb, lt-leb}
use borrow.Rule.Slice.PartMut.{put_mid}
use lib.Dec.{leb}
use lib.ListN.{length, get_or, take, drop, replicate, length-drop, take-append-drop, drop_of_length-le, get_or-eq_default}
use lib.Seq.{drop-drop, length-take-le}
use Rattle.std.specs.List.{copy_within}
use Rattle.std.proofs.lemmas.List.{take_rest}
use Rattle.std.proofs.lemmas.List.Edits.{take-paste, length-paste}
use Rattle.below.specs.Table.{table}
use Rattle.below.proofs.Laws.Filled.{replicate_table}
use Rattle.below.proofs.Laws.Table.{table_same}
use Rattle.put.specs.Gap.{close_gap}
use Rattle.put.proofs.Laws.Gap.{close_gap-is}

module _ (bytes : List ℕ) (at n a k : ℕ) (from : a ≡ min at (length bytes)) (many : k ≡ min n (length bytes - a)) where
  clipped : close_gap bytes at n ≡ close_gap bytes a k
  unfolding close_gap
  clipped = table_same _ _ (length bytes) (λ i h. elim (dec_lt i at) [ yes l ↦ before i h l | no l ↦ behind i h (omega arith) ])
    where
      before : (i : ℕ) → i < length bytes → i < at
          → cond (leb at i) (get_or bytes (i + n) 0) (get_or bytes i 0) ≡ cond (leb a i) (get_or bytes (i + k) 0) (get_or bytes i 0)
      before i h l = let near : i < a = omega arith in rw (lt-leb at i l, lt-leb a i near)

      moved : (i : ℕ) → i < length bytes → at ≤ i → get_or bytes (i + n) 0 ≡ get_or bytes (i + k) 0
      moved i h l = elim (dec_lt (length bytes - a) n) [
        | yes m ↦ get_or-eq_default bytes 0 (omega arith) ∙ sym (get_or-eq_default bytes 0 (omega arith))
        | no m ↦ ap (λ (j : ℕ). get_or bytes (i + j) 0) (omega arith)
      ]

      behind : (i : ℕ) → i < length bytes → at ≤ i
          → cond (leb at i) (get_or bytes (i + n) 0) (get_or bytes i 0) ≡ cond (leb a i) (get_or bytes (i + k) 0) (get_or bytes i 0)
      behind i h l = let far : a ≤ i = omega arith in rw (le-leb at i l, le-leb a i far) (moved i h l)

  in_parts : bytes ≡ take a bytes ++ take k (drop a bytes) ++ drop (a + k) bytes
  in_parts =
      sym (ap (λ (l : List ℕ). take a bytes ++ l)
      (ap (λ (l : List ℕ). take k (drop a bytes) ++ l) (sym (drop-drop k a bytes)) ∙ take-append-drop k (drop a bytes))
      ∙ take-append-drop a bytes)
      ∙ sym (append_assoc (take a bytes) (take k (drop a bytes)) (drop (a + k) bytes))

  parts : close_gap bytes a k ≡ take a bytes ++ drop (a + k) bytes ++ table (λ i. 0) k
  parts = close_gap-is (take a bytes) (take k (drop a bytes)) (drop (a + k) bytes) in_parts (length-take-le a bytes (omega arith))
      (length-take-le k (drop a bytes) (omega (arith, length-drop a bytes)))

  -- as code moves and fills
  pub gap_closed : (moved filled : List ℕ) (j : ℕ) → moved ≡ copy_within bytes (a + k) (length bytes) a → filled ≡ replicate k 0 → j ≡ k
      → put_mid (length bytes - k) j moved filled ≡ close_gap bytes at n
  gap_closed moved filled j move fill e = ap₂ {C = List ℕ} (λ xs ys. xs ++ ys) front end ∙ sym (clipped ∙ parts)
    where
      rest : ℕ
      rest = length bytes - (a + k)

      front : take (length bytes - k) moved ≡ take a bytes ++ drop (a + k) bytes
      front =
          ap (λ (m : ℕ). take m moved) (omega arith) ∙ ap (take (a + rest)) move
          ∙ take-paste bytes a (drop (a + k) bytes) rest (omega arith) (omega (arith, length-drop (a + k) bytes))
          ∙ ap (λ (l : List ℕ). take a bytes ++ l) (take_rest bytes (a + k))

      long : length moved ≡ length bytes
      long = ap length move ∙ length-paste bytes a (drop (a + k) bytes) rest (omega arith) (omega (arith, length-drop (a + k) bytes))

      end : filled ++ drop j (drop (length bytes - k) moved) ≡ table (λ i. 0) k
      end =
          ap (λ (l : List ℕ). filled ++ l)
          (drop_of_length-le (drop (length bytes - k) moved) {i = j} (omega (arith, length-drop (length bytes - k) moved, long)))
          ∙ append-nil filled ∙ fill ∙ replicate_table k 0
