-- A number built from its bits, the highest first: what a loop that counts down from the highest keeps. Assumes nothing.
use Prim.Native.Nat.{ℕ, suc, ◌+◌, ◌*◌, ◌^◌, ◌<◌, ◌≤◌}
use native.Mathlib.Omega.{arith}
use native.Mathlib.Decide.{dec_lt}
use native.Mathlib.Nat.{pow-le-pow_right}
use mathlib.Core.List.{List}
use mathlib.Core.Path.{◌≡◌, sym, ap}
use lib.ListN.{length, get_or, drop, length-drop}
use lib.Seq.{get_or-drop}
use Rattle.below.specs.Table.{table}
use Rattle.below.proofs.Laws.Table.{length_table, get_or_table, get_or_table_past, drop_table, drop_table_all}
use Rattle.bits.specs.Digits.{sum, AllBelow}
use Rattle.bits.proofs.Laws.Digits.{sum_below, all_below_of}

-- the bits f i, f (i + 1), .. f (n − 1) add up to the number
pub record FromTop (f : ℕ → ℕ) (n i number : ℕ) : Type 0 where
  pub within : i ≤ n
  pub is : number ≡ sum 2 (drop i (table f n))

module _ (f : ℕ → ℕ) (n : ℕ) where
  pub top_start : FromTop f n n 0
  unfolding sum
  top_start = record { within = omega arith; is = sym (ap (sum 2) (drop_table_all f n n (omega arith))) }

  pub top_next : (i number : ℕ) → FromTop f n (suc i) number → FromTop f n i (2 * number + f i)
  unfolding sum
  top_next i number b = record { within = omega (arith, b.within); is = omega (arith, b.is, ap (sum 2) (drop_table f n i b.within)) }

  pub top_end : (number : ℕ) → FromTop f n 0 number → number ≡ sum 2 (table f n)
  top_end number b = b.is

  bits_below : ((k : ℕ) → f k < 2) → (i : ℕ) → AllBelow 2 (drop i (table f n))
  bits_below small i = all_below_of 2 (drop i (table f n)) (λ j h. rw get_or-drop (at (i + j)))
    where
      at : (j : ℕ) → get_or (table f n) j 0 < 2
      at j = elim (dec_lt j n) [ yes h ↦ rw (get_or_table f n j 0 h) (small j) | no h ↦ rw (get_or_table_past f n j 0 (omega arith)) (omega arith) ]

  pub top_fits : ((k : ℕ) → f k < 2) → (i number : ℕ) → FromTop f n i number → number < 2 ^ n
  top_fits small i number b = omega (arith, b.is, sum_below 2 ds (bits_below small i), pow-le-pow_right {n = 2} (omega arith) fewer)
    where
      ds : List ℕ
      ds = drop i (table f n)

      fewer : length ds ≤ n
      fewer = omega (arith, length-drop i (table f n), length_table f n)
