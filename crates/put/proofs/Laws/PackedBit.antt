-- A bit of packed numbers (02, T-07) by the number that it stands in: bit b of byte j is bit 8 × j + b of all. Assumes nothing.
use Prim.Native.Nat.{ℕ, zero, suc, ◌+◌, ◌*◌, ◌/◌, ◌%◌, ◌^◌, ◌<◌, ◌≤◌}
use native.Mathlib.Nat.{div-add-mod', add-mul-div_right, mul-add-mod_self_right, div-lt_iff_lt-mul, le-div_iff_mul-le}
use native.Mathlib.Omega.{arith}
use mathlib.Core.Bool.{Bool, true, false, ◌&&◌}
use mathlib.Core.List.{List}
use mathlib.Core.Path.{◌≡◌, refl, sym, ap, ap₂, ◌∙◌}
use borrow.Author.Tests.{lt-ltb, le-ltb}
use lib.Bits.{bit_and}
use lib.Dec.{eqb, ltb}
use lib.ListN.{length, get_or, get_or-eq_default}
use lib.Pow.{pow_pos}
use Rattle.bits.specs.Bit.{bit, one_if}
use Rattle.bits.specs.Packed.{packed_bit}
use Rattle.bits.proofs.Laws.Bit.{bit_below, bit_high, bit-by_mask}

nothing : (b : Bool) → 0 ≡ one_if (b && false)
unfolding one_if
nothing true = refl
nothing false = refl

-- a bit as a truth and back
same_bit : (b : ℕ) → b < 2 → b ≡ one_if (eqb b 1)
unfolding one_if
same_bit zero h = refl
same_bit (suc zero) h = refl
same_bit (suc (suc b)) h = absurd (omega arith)

module _ (w j b : ℕ) (pos : 0 < w) where
  whole : 8 * j + b ≡ 8 * (j % w) + b + 8 * (j / w) * w
  whole = let parts : j / w * w + j % w ≡ j = div-add-mod' j w in omega arith

  pub number_of : (8 * j + b) / w ≡ 8 * (j / w) + (8 * (j % w) + b) / w
  number_of = ap (λ (i : ℕ). i / w) whole ∙ add-mul-div_right (8 * (j % w) + b) (8 * (j / w)) pos ∙ omega arith

  pub bit_of_lem : (8 * j + b) % w ≡ (8 * (j % w) + b) % w
  bit_of_lem = ap (λ (i : ℕ). i % w) (whole ∙ omega arith) ∙ mul-add-mod_self_right (8 * (j / w)) w (8 * (j % w) + b)

  module _ (numbers : List ℕ) (n : ℕ) where
    -- of a number that isn't there
    pub bit_past : length numbers / 8 < j / w → 0 ≡ one_if (ltb (8 * j + b) (n * w) && packed_bit (λ k. get_or numbers k 0) w (8 * j + b))
    unfolding one_if
    bit_past h =
        nothing (ltb (8 * j + b) (n * w))
        ∙ ap (λ (m : ℕ). one_if (ltb (8 * j + b) (n * w) && eqb m 1))
        (sym (ap (λ (m : ℕ). bit m ((8 * j + b) % w)) (get_or-eq_default numbers 0 {n = (8 * j + b) / w} (omega (arith, number_of)))
        ∙ bit_high 0 ((8 * j + b) % w) (pow_pos ((8 * j + b) % w))))

    -- behind the last number
    pub bit-behind : n ≤ 8 * (j / w) + (8 * (j % w) + b) / w → 0 ≡ one_if (ltb (8 * j + b) (n * w) && packed_bit (λ k. get_or numbers k 0) w (8 * j + b))
    unfolding one_if
    bit-behind h =
        let past : n * w ≤ 8 * j + b = (le-div_iff_mul-le pos).0 (omega (arith, number_of)) in
        sym (ap (λ (t : Bool). one_if (t && packed_bit (λ k. get_or numbers k 0) w (8 * j + b))) (le-ltb (8 * j + b) (n * w) past))

    -- by a shift and a mask, as code takes it
    pub bit_there :
        (k : ℕ) → k ≡ 8 * (j / w) + (8 * (j % w) + b) / w → k < n
        → bit_and (get_or numbers k 0 / 2 ^ ((8 * (j % w) + b) % w)) 1 ≡ one_if (ltb (8 * j + b) (n * w) && packed_bit (λ k. get_or numbers k 0) w (8 * j + b))
    unfolding one_if
    bit_there k e h =
        let inside : 8 * j + b < n * w = (div-lt_iff_lt-mul pos).0 (omega (arith, number_of)) in
        let same : k ≡ (8 * j + b) / w = e ∙ sym number_of in
        bit-by_mask (get_or numbers k 0) ((8 * (j % w) + b) % w)
        ∙ ap₂ (λ (a c : ℕ). bit (get_or numbers a 0) c) same (sym bit_of_lem)
        ∙ same_bit (bit (get_or numbers ((8 * j + b) / w) 0) ((8 * j + b) % w)) (bit_below (get_or numbers ((8 * j + b) / w) 0) ((8 * j + b) % w))
        ∙ ap (λ (t : Bool). one_if (t && packed_bit (λ k. get_or numbers k 0) w (8 * j + b))) (sym (lt-ltb (8 * j + b) (n * w) inside))

pub ruleset bit_cases = (bit_past, bit-behind, bit_there)
