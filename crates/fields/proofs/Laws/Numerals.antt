-- What digits say, one after the other, and the number that stands at a place of a text. Assumes nothing.
use Prim.Native.Nat.{ℕ, zero, suc, ◌+◌, ◌*◌, ◌-◌, ◌^◌, ◌<◌, ◌≤◌}
use native.Mathlib.Omega.{arith}
use native.Mathlib.Numerals.{add-one}
use native.Mathlib.Nat.{pow-suc, lt_of_lt_of_le, pow-le-pow_right}
use mathlib.Core.Bool.{Bool, true, false, ◌&&◌}
use mathlib.Core.List.{List, [], ◌∷◌, ◌++◌}
use mathlib.Core.Path.{◌≡◌, refl, sym, ap, ap₂, ◌∙◌, subst}
use lib.Dec.{leb}
use lib.ListN.{length, get_or, take, drop, length-append, length-drop}
use lib.Seq.{take_all, take-suc, drop-drop}
use borrow.Author.Tests.{leb-true}
use Rattle.bits.proofs.Laws.Bytes.{both_true}
use Rattle.text.specs.Number.{is_digit, run, is_numeral, decimal_value, number, is, bad}
use Rattle.text.proofs.Laws.Run.{Each, run_each, run_splits}
use Rattle.fields.specs.Inner.NumberAt.{Digits}

decimal_snoc : (n : ℕ) (ds : List ℕ) (d : ℕ) → decimal_value n (ds ++ (d ∷ [])) ≡ decimal_value n ds * 10 + (d - 48)
unfolding decimal_value
decimal_snoc n [] d = refl
decimal_snoc n (e ∷ ds) d = decimal_snoc (n * 10 + (e - 48)) ds d

-- what the digits passed say
pub record Said (ds : List ℕ) (i v : ℕ) : Type 0 where
  pub says : v ≡ decimal_value 0 (take i ds)
  pub small : v < 10 ^ i

pub said_start : (ds : List ℕ) → Said ds 0 0
unfolding decimal_value
said_start ds = record { says = refl; small = omega arith }

module _ (ds : List ℕ) (i v : ℕ) (w : Said ds i v) (all : length ds ≤ i) where
  pub said_all : v ≡ decimal_value 0 ds
  said_all = w.says ∙ ap (decimal_value 0) (take_all i ds all)

  pub all_small : i ≤ length ds → Digits ds → v < 10 ^ 7
  all_small h digits = lt_of_lt_of_le w.small (pow-le-pow_right {n = 10} (omega arith) {i = i} {j = 7} (omega (arith, digits.few)))

module _ (ds : List ℕ) (digits : Digits ds) (i : ℕ) where
  pub digit-low : i < length ds → 48 ≤ get_or ds i 0
  unfolding is_digit
  digit-low h = leb-true 48 (get_or ds i 0) (both_true (leb 48 (get_or ds i 0)) (leb (get_or ds i 0) 57) (digits.each i h)).0

  pub digit_high : i < length ds → get_or ds i 0 ≤ 57
  unfolding is_digit
  digit_high h = leb-true (get_or ds i 0) 57 (both_true (leb 48 (get_or ds i 0)) (leb (get_or ds i 0) 57) (digits.each i h)).1

  module _ (v : ℕ) (w : Said ds i v) (more : i < length ds) where
    pub said_small : v < 10 ^ 6
    said_small = lt_of_lt_of_le w.small (pow-le-pow_right {n = 10} (omega arith) {i = i} {j = 6} (omega (arith, digits.few)))

    pub said_more : (d : ℕ) → d ≡ get_or ds i 0 - 48 → Said ds (i + 1) (v * 10 + d)
    said_more d e =
        rw (add-one i)
        (record {
          says = ap₂ (λ (a b : ℕ). a * 10 + b) w.says e ∙ sym (decimal_snoc 0 (take i ds) (get_or ds i 0)) ∙ ap (decimal_value 0) (sym (take-suc ds i 0 more));
          small = rw pow-suc (omega (arith, w.small, e, digit_high more));
        })

-- the digits that stand at a place
each_at : (p : ℕ → Bool) (t : List ℕ) → Each p t → (i : ℕ) → i < length t → p (get_or t i 0) ≡ true
each_at p [] a i h = absurd (omega arith)
each_at p (b ∷ t) a zero h = a.0
each_at p (b ∷ t) a (suc i) h = each_at p t a.1 i (omega arith)

module _ (s : List ℕ) (at : ℕ) (ds : List ℕ) (are : ds ≡ run is_digit (drop at s)) where
  few_of : is_numeral ds ≡ true → (1 ≤ length ds) × (length ds ≤ 7)
  unfolding is_numeral
  few_of e = let (front, rest) = both_true (leb 1 (length ds) && leb (length ds) 7) _ e in
      let (one, seven) = both_true (leb 1 (length ds)) (leb (length ds) 7) front in
      (leb-true 1 (length ds) one, leb-true (length ds) 7 seven)

  pub digits_of : is_numeral ds ≡ true → Digits ds
  digits_of e = record { few = (few_of e).1; each = each_at is_digit ds (subst (Each is_digit) (sym are) (run_each is_digit (drop at s))) }

  pub digits_within : is_numeral ds ≡ true → at + length ds ≤ length s
  digits_within e =
      omega (
        arith,
        (few_of e).0,
        ap length are,
        ap length (run_splits is_digit (drop at s)),
        length-append (run is_digit (drop at s)) (drop (length (run is_digit (drop at s))) (drop at s)),
        length-drop at s,
      )

  pub number_is : is_numeral ds ≡ true → number (drop at s) ≡ is (decimal_value 0 ds) (drop (at + length ds) s)
  unfolding number
  number_is e =
      rw (← are, e) (ap₂ is {x = decimal_value 0 ds} refl (drop-drop (length ds) at s))

  pub number_bad : is_numeral ds ≡ false → number (drop at s) ≡ bad
  unfolding number
  number_bad e = rw (← are, e)
