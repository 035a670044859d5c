-- What holds of a lane that keeps: an error keeps nowhere, without one the next state decides. Assumes nothing.
use Prim.Native.Nat.{ℕ, suc, ◌+◌, ◌*◌, ◌-◌, ◌^◌, ◌<◌, ◌≤◌, min}
use native.Mathlib.Omega.{arith}
use native.Mathlib.Nat.{pow-le-pow_right}
use mathlib.Core.Bool.{Bool, true, false, not, ◌&&◌}
use mathlib.Core.List.{List, reverse}
use mir.Val.{bool_byte}
use mathlib.Core.Path.{◌≡◌, refl, sym, ap, ◌∙◌, subst}
use lib.ListN.{length, get_or, take, length-take}
use lib.Seq.{get_or-take}
use Rattle.std.proofs.lemmas.List.{get_or-reverse, length-reverse}
use Rattle.std.proofs.lemmas.Grind.{get_or_default_zero}
use Rattle.bits.specs.Bit.{one_if}
use Rattle.blocks.specs.Lane.{lane}
use Rattle.circuit.specs.Limits.{base}
use Rattle.step.proofs.Laws.FromTop.{FromTop, top_start, top_next, top_end, top_fits}
use Rattle.step.proofs.Laws.Truths.{one_if-bit}
use Rattle.keeping.specs.Inner.InLane.{number_of, lane_number, keeps_in}

module _ (set : ℕ → Bool) (error : ℕ) (next : List ℕ) (j : ℕ) where
  pub error_fails : lane error j ≡ true → keeps_in set error next j ≡ false
  unfolding keeps_in
  error_fails e = ap (λ (b : Bool). not b && set (lane_number next j)) e

  pub next_decides : lane error j ≡ false → keeps_in set error next j ≡ set (lane_number next j)
  unfolding keeps_in
  next_decides e = ap (λ (b : Bool). not b && set (lane_number next j)) e

-- a truth as a number
pub byte_is : (b : Bool) → bool_byte b ≡ one_if b
unfolding one_if
byte_is true = refl
byte_is false = refl

-- bit k of the number in lane j
unfoldable pub lane_bit : (words : List ℕ) (j k : ℕ) → ℕ
lane_bit words j k = one_if (lane (get_or words k 0) j)

pub lane_bit_small : (words : List ℕ) (j k : ℕ) → lane_bit words j k < 2
unfolding lane_bit
lane_bit_small words j k = one_if-bit _

-- what a loop over the words of a lane's number, from the last back, keeps after k of them
module _ (words : List ℕ) (j : ℕ) where
  abbrev pub count : ℕ
  count = min (length words) base.latches

  pub record Taken (k number : ℕ) : Type 0 where
    pub left : ℕ
    pub all : left + k ≡ count
    pub from : FromTop (lane_bit words j) count left number

  pub taken_none : Taken 0 0
  taken_none = record { left = count; all = omega arith; from = top_start (lane_bit words j) count }

  -- the next word is the last that isn't taken
  module _ (k number word : ℕ) (taken : Taken k number)
      (turn : (k < length (reverse (take base.latches words))) × (word ≡ get_or (reverse (take base.latches words)) k word)) where
    long : length (take base.latches words) ≡ count
    long = omega (arith, length-take base.latches words)

    some : 0 < taken.left
    some = omega (arith, turn.0, long, length-reverse (take base.latches words), taken.all)

    before : FromTop (lane_bit words j) count (suc (taken.left - 1)) number
    before = subst (λ (i : ℕ). FromTop (lane_bit words j) count i number) (omega (arith, some)) taken.from

    word_is : word ≡ get_or words (taken.left - 1) 0
    word_is = turn.1 ∙ get_or-reverse (take base.latches words) k word (omega (arith, long, taken.all, some))
        ∙ ap (λ (i : ℕ). get_or (take base.latches words) i word) {x = length (take base.latches words) - 1 - k} {y = taken.left - 1}
        (omega (arith, long, taken.all))
        ∙ get_or_default_zero (take base.latches words) (taken.left - 1) word (omega (arith, long, taken.all, some))
        ∙ get_or-take base.latches words (taken.left - 1) 0 (omega (arith, some, taken.all))

    pub taken_next : Taken (k + 1) (2 * number + one_if (lane word j))
    unfolding lane_bit
    taken_next = record {
      left = taken.left - 1;
      all = omega (arith, taken.all, some);
      from = subst (λ (w : ℕ). FromTop (lane_bit words j) count (taken.left - 1) (2 * number + one_if (lane w j))) (sym word_is)
          (top_next (lane_bit words j) count (taken.left - 1) number before);
    }

    pub next_fits : 2 * number + one_if (lane word j) < 2 ^ base.latches
    next_fits = let next = taken_next in omega (
      arith,
      top_fits (lane_bit words j) count (lane_bit_small words j) next.left (2 * number + one_if (lane word j)) next.from,
      pow-le-pow_right {n = 2} (omega arith) few,
    )
      where
        few : count ≤ base.latches
        few = omega arith

  pub taken_all : (k number : ℕ) → Taken k number → k ≡ length (reverse (take base.latches words)) → number ≡ lane_number words j
  unfolding lane_number number_of lane_bit
  taken_all k number taken e = top_end (lane_bit words j) count number (subst (λ (i : ℕ). FromTop (lane_bit words j) count i number) none taken.from)
    where
      none : taken.left ≡ 0
      none = omega (arith, taken.all, e, length-reverse (take base.latches words), length-take base.latches words)
