-- The bits of the move in a lane: the lowest six are those of the lane's own number, the others those of the block. Assumes nothing.
use Prim.Native.Nat.{ℕ, ◌+◌, ◌*◌, ◌-◌, ◌/◌, ◌%◌, ◌^◌, ◌<◌, ◌≤◌}
use native.Mathlib.Omega.{arith}
use mathlib.Core.Bool.{Bool, true}
use mathlib.Core.Path.{◌≡◌, refl, sym, ap, ◌∙◌}
use lib.Arith.{digits_div, digits_mod}
use lib.Dec.{eqb}
use lib.ListN.{get_or}
use lib.Pow.{shr-shr}
use borrow.Author.Tests.{eqb-true}
use Rattle.below.specs.Least.{every, any, least}
use Rattle.below.proofs.Laws.Least.{every_at}
use Rattle.bits.specs.Bit.{bit, odd}
use Rattle.bits.proofs.Laws.Bit.{bit_mod}
use Rattle.blocks.specs.Lane.{width, lane, move_in}
use Rattle.blocks.specs.declared.moves.TheConstants.{OWN_BITS}

bit-odd : (n k : ℕ) → odd (n / 2 ^ k) ≡ eqb (bit n k) 1
unfolding odd bit
bit-odd n k = refl

pub move-low : (block j c : ℕ) → j < width → c < 6 → odd (j / 2 ^ c) ≡ odd (move_in block j / 2 ^ c)
unfolding move_in
move-low block j c h l = bit-odd j c ∙ ap (λ (n : ℕ). eqb n 1) (sym (ap (λ (n : ℕ). bit n c) (digits_mod block {m = width} {r = j} h))
    ∙ bit_mod (block * width + j) 6 c l) ∙ sym (bit-odd (block * width + j) c)

pub move-high : (block j c : ℕ) → j < width → 6 ≤ c → odd (block / 2 ^ (c - 6)) ≡ odd (move_in block j / 2 ^ c)
unfolding move_in
move-high block j c h l = ap odd (sym (ap (λ (n : ℕ). n / 2 ^ (c - 6)) (digits_div block {m = width} {r = j} h)) ∙ shr-shr (block * width + j) 6 (c - 6)
    ∙ ap (λ (n : ℕ). (block * width + j) / 2 ^ n) six)
  where
    six : 6 + (c - 6) ≡ c
    six = omega arith

-- a word each of whose lanes is bit c of the lane's own number: every lane is tried
unfoldable pub own_bits : (word c : ℕ) → Bool
own_bits word c = every (λ j. eqb (word / 2 ^ j % 2) (j / 2 ^ c % 2)) width

pub own_bits_lem : (word c n j : ℕ) → own_bits word c ≡ true → n ≡ c → j < width → lane word j ≡ odd (j / 2 ^ n)
unfolding lane odd own_bits
own_bits_lem word c n j e q h = ap (λ (m : ℕ). eqb m 1)
    (eqb-true (word / 2 ^ j % 2) (j / 2 ^ c % 2) (every_at (λ j. eqb (word / 2 ^ j % 2) (j / 2 ^ c % 2)) width j e h))
    ∙ ap (λ (m : ℕ). eqb (j / 2 ^ m % 2) 1) (sym q)

pub own_word : (i j : ℕ) → i < 6 → j < width → lane (get_or OWN_BITS i 0) j ≡ odd (j / 2 ^ i)
unfolding own_bits every any least
own_word i j h l = own_bits_lem (get_or OWN_BITS i 0) i i j (every_at (λ c. own_bits (get_or OWN_BITS c 0) c) 6 i refl h) refl l
