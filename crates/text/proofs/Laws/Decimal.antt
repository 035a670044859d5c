-- What holds of a number as it is written: its last digit stands behind the digits of its tenth, and it has few digits. Assumes nothing.
use Prim.Native.Nat.{ℕ, zero, suc, ◌+◌, ◌/◌, ◌%◌, ◌^◌, ◌<◌, ◌≤◌}
use native.Mathlib.Omega.{arith}
use native.Mathlib.Nat.{not-suc-le-zero, pow-suc}
use native.Mathlib.Decide.{dec_lt}
use mathlib.Core.List.{List, [], ◌∷◌, ◌++◌}
use mathlib.Core.Path.{◌≡◌, sym, ap, ◌∙◌}
use lib.ListN.{length, length-append}
use borrow.Author.Tests.{lt-ltb, le-ltb}
use Rattle.text.specs.Number.{decimal_within, decimal}

within_small : (fuel n : ℕ) → n < 10 → decimal_within (suc fuel) n ≡ (48 + n) ∷ []
unfolding decimal_within
within_small fuel n h = rw (lt-ltb n 10 h)

within_more : (fuel n : ℕ) → 10 ≤ n → decimal_within (suc fuel) n ≡ decimal_within fuel (n / 10) ++ ((48 + n % 10) ∷ [])
unfolding decimal_within
within_more fuel n h = rw (le-ltb n 10 h)

-- more fuel than the number says nothing else
enough_fuel : (f g n : ℕ) → n < f → n < g → decimal_within f n ≡ decimal_within g n
enough_fuel zero g n a b = absurd (not-suc-le-zero a)
enough_fuel (suc f) zero n a b = absurd (not-suc-le-zero b)
enough_fuel (suc f) (suc g) n a b = elim (dec_lt n 10) [
  | yes s ↦ within_small f n s ∙ sym (within_small g n s)
  | no m ↦ within_more f n (omega arith)
      ∙ ap (λ (ds : List ℕ). ds ++ ((48 + n % 10) ∷ [])) (enough_fuel f g (n / 10) (omega arith) (omega arith)) ∙ sym (within_more g n (omega arith))
]

pub decimal_small : (n : ℕ) → n < 10 → decimal n ≡ (48 + n) ∷ []
unfolding decimal
decimal_small n h = within_small n n h

pub decimal_more : (n : ℕ) → 10 ≤ n → decimal n ≡ decimal (n / 10) ++ ((48 + n % 10) ∷ [])
unfolding decimal
decimal_more n h = within_more n n h ∙ ap (λ (ds : List ℕ). ds ++ ((48 + n % 10) ∷ [])) (enough_fuel n (suc (n / 10)) (n / 10) (omega arith) (omega arith))

pub length-decimal_small : (n : ℕ) → n < 10 → length (decimal n) ≡ 1
length-decimal_small n h = ap length (decimal_small n h)

pub length-decimal_more : (n : ℕ) → 10 ≤ n → length (decimal n) ≡ length (decimal (n / 10)) + 1
length-decimal_more n h = ap length (decimal_more n h) ∙ length-append (decimal (n / 10)) ((48 + n % 10) ∷ [])

-- a number below 10 ^ suc k has at most suc k digits
pub length-decimal-most : (k n : ℕ) → n < 10 ^ suc k → length (decimal n) ≤ suc k
length-decimal-most zero n h = omega (arith, length-decimal_small n h)
length-decimal-most (suc k) n h = elim (dec_lt n 10) [
  | yes s ↦ omega (arith, length-decimal_small n s)
  | no m ↦ omega (arith, length-decimal_more n (omega arith), length-decimal-most k (n / 10) (omega (arith, pow-suc 10 (suc k))))
]
