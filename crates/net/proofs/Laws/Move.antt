-- The bits of a move: the control's, then the reading's, then the state's; and the variables that stand for them. Assumes nothing.
use Prim.Native.Nat.{ℕ, suc, ◌+◌, ◌*◌, ◌-◌, ◌/◌, ◌%◌, ◌^◌, ◌<◌, ◌≤◌}
use native.Mathlib.Omega.{arith}
use native.Mathlib.Nat.{mod-lt}
use mathlib.Core.Bool.{false}
use mathlib.Core.Path.{◌≡◌, refl, sym, ap, ◌∙◌}
use lib.Dec.{eqb}
use lib.Arith.{digits_lt}
use lib.Pow.{pow_pos, pow-add, shl_exact, shr-shr, high, low}
use borrow.Author.Tests.{le-leb}
use Rattle.bits.specs.Bit.{bit, odd}
use Rattle.bits.proofs.Laws.Bit.{bit_mod}
use Rattle.net.specs.Move.{move_of}
use Rattle.net.specs.Net.{with_move}

odd_below : (n w i : ℕ) → i < w → odd (n % 2 ^ w / 2 ^ i) ≡ odd (n / 2 ^ i)
unfolding odd bit
odd_below n w i h = ap (λ (m : ℕ). eqb m 1) (bit_mod n w i h)

-- bits below a width are those of what stands there
odd_low : (n m w i : ℕ) → i < w → odd ((n * 2 ^ w + m % 2 ^ w) / 2 ^ i) ≡ odd (m / 2 ^ i)
odd_low n m w i h =
    sym (odd_below (n * 2 ^ w + m % 2 ^ w) w i h)
    ∙ ap (λ (x : ℕ). odd (x / 2 ^ i)) (low n w {lo = m % 2 ^ w} (mod-lt m (pow_pos w)))
    ∙ odd_below m w i h

-- and those above are those of what stands above
odd-high : (n m w i : ℕ) → odd ((n * 2 ^ w + m % 2 ^ w) / 2 ^ (w + i)) ≡ odd (n / 2 ^ i)
odd-high n m w i =
    ap odd
    (sym (shr-shr (n * 2 ^ w + m % 2 ^ w) w i)
    ∙ ap (λ (x : ℕ). x / 2 ^ i) (high n w {lo = m % 2 ^ w} (mod-lt m (pow_pos w))))

module _ (L U C s r k : ℕ) where
  pub control_bit : (i : ℕ) → i < C → odd (move_of L U C s r k / 2 ^ i) ≡ odd (k / 2 ^ i)
  unfolding move_of
  control_bit i h = odd_low (s % 2 ^ L * 2 ^ U + r % 2 ^ U) k C i h

  pub reading_bit : (i : ℕ) → i < U → odd (move_of L U C s r k / 2 ^ (C + i)) ≡ odd (r / 2 ^ i)
  unfolding move_of
  reading_bit i h = odd-high (s % 2 ^ L * 2 ^ U + r % 2 ^ U) k C i ∙ odd_low (s % 2 ^ L) r U i h

  pub state_bit : (i : ℕ) → i < L → odd (move_of L U C s r k / 2 ^ (C + (U + i))) ≡ odd (s / 2 ^ i)
  unfolding move_of
  state_bit i h =
      odd-high (s % 2 ^ L * 2 ^ U + r % 2 ^ U) k C (U + i)
      ∙ odd-high (s % 2 ^ L) r U i
      ∙ odd_below s L i h

-- the variable of a bit
pub with_move_at : (n move v i : ℕ) → v ≡ suc i → i < n → with_move n move v ≡ odd (move / 2 ^ i)
unfolding with_move
with_move_at n move v i e h =
    rw (le-leb 1 v (omega arith), le-leb v n (omega arith)) (ap (λ (m : ℕ). odd (move / 2 ^ m)) before)
  where
    before : v - 1 ≡ i
    before = omega arith

pub with_move_none : (n move : ℕ) → with_move n move 0 ≡ false
unfolding with_move
with_move_none n move = refl

pub join_below : (j k h m : ℕ) → h < 2 ^ j → m < 2 ^ k → h * 2 ^ k + m < 2 ^ (j + k)
join_below j k h m l f = omega (arith, digits_lt {q = h} {m = 2 ^ j} {r = m} {c = 2 ^ k} l f, pow-add 2 j k)

-- a move as code makes it: nothing is lost by shifts of so few bits
pub move_made : (L U C s r k : ℕ) → L + U + C ≤ 64
    → (s % 2 ^ L * 2 ^ U % 18446744073709551616 + r % 2 ^ U) * 2 ^ C % 18446744073709551616 + k % 2 ^ C ≡ move_of L U C s r k
unfolding move_of
move_made L U C s r k few =
    rw (
      shl_exact L U 64 (mod-lt s (pow_pos L)) (omega arith),
      shl_exact (L + U) C 64 (join_below L U (s % 2 ^ L) (r % 2 ^ U) (mod-lt s (pow_pos L)) (mod-lt r (pow_pos U))) few,
    )

pub lowest_below : (n w : ℕ) → n % 2 ^ w < 2 ^ w
lowest_below n w = mod-lt n (pow_pos w)
