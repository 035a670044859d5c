-- A number is read back from its decimal digits, and what is read as a number is its decimal digits (01, "The file": a number is one to
-- seven decimal digits, without a leading zero unless it is 0 itself). Assumes nothing.
use Prim.Native.Nat.{ℕ, zero, suc, ◌+◌, ◌*◌, ◌-◌, ◌/◌, ◌%◌, ◌^◌, ◌<◌, ◌≤◌}
use native.Mathlib.Omega.{arith}
use native.Mathlib.Nat.{not-suc-le-zero, le_refl, pow-zero, pow-suc, mul_comm, mul_assoc, mul-le-mul_right, lt_of_lt_of_le, pow-le-pow_right}
use native.Mathlib.Decide.{dec_lt}
use mathlib.Core.Bool.{Bool, true, false, not, ◌&&◌, ◌||◌}
use mathlib.Core.List.{List, [], ◌∷◌, ◌++◌, append-nil, append_assoc}
use mathlib.Core.Path.{◌≡◌, refl, sym, ap, ap₂, ◌∙◌, subst}
use lib.Arith.{digits_div, digits_mod}
use lib.Dec.{eqb, leb, ltb}
use lib.ListN.{length, get_or, drop, length-append}
use lib.Seq.{drop-append_seam}
use borrow.Author.Tests.{ltb-false, lt-ltb, le-ltb, le-leb, leb-true, eqb-true, eq-eqb}
use Rattle.bits.proofs.Laws.Bytes.{both_true}
use Rattle.text.specs.Number.{is_digit, run, is_numeral, decimal_value, Num, is, bad, number, decimal_within, decimal}
use Rattle.text.proofs.Laws.Run.{Each, each_append, run_each, run_splits, run_stops, run_append}

-- enough fuel is enough
same_digits : (f g n : ℕ) → n < f → n < g → decimal_within f n ≡ decimal_within g n
unfolding decimal_within
same_digits zero g n a b = absurd (not-suc-le-zero a)
same_digits (suc f) zero n a b = absurd (not-suc-le-zero b)
same_digits (suc f) (suc g) n a b = by (ltb n 10) refl (λ h k. same_digits f g (n / 10) h k)
  where
    by : (t : Bool) → ltb n 10 ≡ t → (n / 10 < f → n / 10 < g → decimal_within f (n / 10) ≡ decimal_within g (n / 10))
        → decimal_within (suc f) n ≡ decimal_within (suc g) n
    by true e ih = rw e
    by false e ih = rw e (ap {B = List ℕ} (λ r. r ++ ((48 + n % 10) ∷ [])) (ih (omega (arith, ltb-false n 10 e)) (omega (arith, ltb-false n 10 e))))

-- the digits of a number below 10, and of one with a digit more
pub decimal_small : (n : ℕ) → n < 10 → decimal n ≡ (48 + n) ∷ []
unfolding decimal decimal_within
decimal_small n h = rw (lt-ltb n 10 h)

pub decimal_grows : (n k : ℕ) → 0 < n → k < 10 → decimal (n * 10 + k) ≡ decimal n ++ ((48 + k) ∷ [])
unfolding decimal decimal_within
decimal_grows n k h l =
    rw (le-ltb (n * 10 + k) 10 (omega arith), digits_div n {m = 10} {r = k} l, digits_mod n {m = 10} {r = k} l)
    (ap {B = List ℕ} (λ r. r ++ ((48 + k) ∷ [])) (same_digits (n * 10 + k) (suc n) n (omega arith) (le_refl (suc n))))

-- what holds of the numbers below 10, and of one with a digit more, holds of all
pub decimal_induction : (P : ℕ → Type 0) → ((n : ℕ) → n < 10 → P n) → ((n k : ℕ) → 0 < n → k < 10 → P n → P (n * 10 + k)) → (n : ℕ) → P n
decimal_induction P small grows n = go (suc n) n (le_refl (suc n))
  where
    go : (f m : ℕ) → m < f → P m
    go zero m h = absurd (not-suc-le-zero h)
    go (suc f) m h = elim (dec_lt m 10) [
      | yes a ↦ small m a
      | no a ↦ subst P (omega arith)
          (grows (m / 10) (m % 10) (omega arith) (omega arith) (go f (m / 10) (omega arith)))
    ]

digit_of : (k : ℕ) → k < 10 → is_digit (48 + k) ≡ true
unfolding is_digit
digit_of k h = rw (le-leb 48 (48 + k) (omega arith), le-leb (48 + k) 57 (omega arith))

pub digit_range : (d : ℕ) → is_digit d ≡ true → (48 ≤ d) × (d ≤ 57)
unfolding is_digit
digit_range d e = let (a, b) = both_true (leb 48 d) (leb d 57) e in (leb-true 48 d a, leb-true d 57 b)

pub decimal_each : (n : ℕ) → Each is_digit (decimal n)
decimal_each = decimal_induction (λ n. Each is_digit (decimal n)) (λ n h. rw (decimal_small n h) (digit_of n h, tt))
    (λ n k h l ih. rw (decimal_grows n k h l) (each_append is_digit (decimal n) ((48 + k) ∷ []) ih (digit_of k l, tt)))

value_append : (m : ℕ) (s t : List ℕ) → decimal_value m (s ++ t) ≡ decimal_value (decimal_value m s) t
unfolding decimal_value
value_append m [] t = refl
value_append m (d ∷ s) t = value_append (m * 10 + (d - 48)) s t

pub decimal_value_lem : (n : ℕ) → decimal_value 0 (decimal n) ≡ n
unfolding decimal_value
decimal_value_lem = decimal_induction (λ n. decimal_value 0 (decimal n) ≡ n) (λ n h. rw (decimal_small n h) (omega arith))
    (λ n k h l ih. rw (decimal_grows n k h l, value_append 0 (decimal n) ((48 + k) ∷ []), ih) (omega arith))

pub decimal_some : (n : ℕ) → 1 ≤ length (decimal n)
decimal_some = decimal_induction (λ n. 1 ≤ length (decimal n)) (λ n h. rw (decimal_small n h) (omega arith))
    (λ n k h l ih. rw (decimal_grows n k h l) (omega (arith, length-append (decimal n) ((48 + k) ∷ []))))

-- a number below 10^k has at most k digits
pub decimal-length : (n k : ℕ) → n < 10 ^ suc k → length (decimal n) ≤ suc k
decimal-length = decimal_induction (λ n. (k : ℕ) → n < 10 ^ suc k → length (decimal n) ≤ suc k) (λ n h k l. rw (decimal_small n h) (omega arith))
    (λ n k h l ih. more n k h l ih)
  where
    more : (n k : ℕ) → 0 < n → k < 10 → ((j : ℕ) → n < 10 ^ suc j → length (decimal n) ≤ suc j) → (j : ℕ) → n * 10 + k < 10 ^ suc j
        → length (decimal (n * 10 + k)) ≤ suc j
    more n k h l ih zero b = absurd (omega (arith, b))
    more n k h l ih (suc j) b = rw (decimal_grows n k h l) (omega (
      arith,
      length-append (decimal n) ((48 + k) ∷ []),
      ih j (omega (arith, b, pow-suc 10 (suc j))),
    ))

first_append : (s t : List ℕ) → 1 ≤ length s → get_or (s ++ t) 0 0 ≡ get_or s 0 0
first_append [] t h = absurd (not-suc-le-zero h)
first_append (x ∷ s) t h = refl

first-not_zero : (n : ℕ) → 0 < n → get_or (decimal n) 0 0 ≡ 48 → ⊥
first-not_zero = decimal_induction (λ n. 0 < n → get_or (decimal n) 0 0 ≡ 48 → ⊥) (λ n h a e. few n h a (rw (decimal_small n h) at e))
    (λ n k h l ih a e. ih h (sym (first_append (decimal n) ((48 + k) ∷ []) (decimal_some n)) ∙ (rw (decimal_grows n k h l) at e)))
  where
    few : (n : ℕ) → n < 10 → 0 < n → 48 + n ≡ 48 → ⊥
    few n h a e = omega arith

first_zero_alone : (n : ℕ) → get_or (decimal n) 0 0 ≡ 48 → length (decimal n) ≡ 1
first_zero_alone n e = elim (dec_lt n 10) [ yes a ↦ (rw (decimal_small n a)) | no a ↦ absurd (first-not_zero n (omega arith) e) ]

-- what a numeral is
pub record Numeral (ds : List ℕ) : Type 0 where
  pub some : 1 ≤ length ds
  pub most : length ds ≤ 7
  pub first : get_or ds 0 0 ≡ 48 → length ds ≡ 1

numeral_of : (ds : List ℕ) → Numeral ds → is_numeral ds ≡ true
unfolding is_numeral
numeral_of ds n = rw (le-leb 1 (length ds) n.some, le-leb (length ds) 7 n.most) (by (eqb (get_or ds 0 0) 48) refl)
  where
    by : (t : Bool) → eqb (get_or ds 0 0) 48 ≡ t → (not (eqb (get_or ds 0 0) 48) || eqb (length ds) 1) ≡ true
    by true e = rw e (eq-eqb (length ds) 1 (n.first (eqb-true _ _ e)))
    by false e = rw e

numeral_is : (ds : List ℕ) → is_numeral ds ≡ true → Numeral ds
unfolding is_numeral
numeral_is ds e =
    let (front, last) = both_true (leb 1 (length ds) && leb (length ds) 7) (not (eqb (get_or ds 0 0) 48) || eqb (length ds) 1) e in
    let (a, b) = both_true (leb 1 (length ds)) (leb (length ds) 7) front in
    record { some = leb-true 1 (length ds) a; most = leb-true (length ds) 7 b; first = λ z. eqb-true (length ds) 1 (rw (eq-eqb (get_or ds 0 0) 48 z) at last) }

-- a number is read back from its decimal digits
pub number-decimal : (n : ℕ) (rest : List ℕ) → n < 10 ^ 7 → is_digit (get_or rest 0 0) ≡ false → number (decimal n ++ rest) ≡ is n rest
unfolding number
number-decimal n rest h z =
    rw (
      run_append is_digit (decimal n) rest (decimal_each n) z,
      numeral_of (decimal n)
          (record { some = decimal_some n; most = decimal-length n 6 h; first = first_zero_alone n }),
      decimal_value_lem n,
      drop-append_seam (decimal n) rest,
    )

-- digits after a number that isn't 0 are the digits of what they all say
digits_after : (ds : List ℕ) (n : ℕ) → 0 < n → Each is_digit ds → decimal n ++ ds ≡ decimal (decimal_value n ds)
unfolding decimal_value
digits_after [] n h a = append-nil (decimal n)
digits_after (d ∷ ds) n h a =
    let (low, high) = digit_range d a.0 in
    let same : 48 + (d - 48) ≡ d = omega arith in
    let once : decimal (n * 10 + (d - 48)) ≡ decimal n ++ (d ∷ []) = (rw same at (decimal_grows n (d - 48) h (omega arith))) in
    sym (append_assoc (decimal n) (d ∷ []) ds) ∙ ap {B = List ℕ} (λ r. r ++ ds) (sym once) ∙ digits_after ds (n * 10 + (d - 48)) (omega arith) a.1

one_digit_more : (n c p v : ℕ) → c ≤ 9 → v < (n * 10 + c + 1) * p → v < (n + 1) * (p * 10)
one_digit_more n c p v h l =
    let wider : (n * 10 + c + 1) * p ≤ (n + 1) * 10 * p = mul-le-mul_right p (omega arith) in
    let same : (n + 1) * 10 * p ≡ (n + 1) * (p * 10) = mul_assoc (n + 1) 10 p ∙ ap (λ (x : ℕ). (n + 1) * x) (mul_comm 10 p) in
    subst (λ (x : ℕ). v < x) same (lt_of_lt_of_le l wider)

value_below : (ds : List ℕ) (n : ℕ) → Each is_digit ds → decimal_value n ds < (n + 1) * 10 ^ length ds
unfolding decimal_value
value_below [] n a = rw pow-zero (omega arith)
value_below (d ∷ ds) n a =
    let (low, high) = digit_range d a.0 in
    rw (pow-suc 10 (length ds)) (one_digit_more n (d - 48) (10 ^ length ds) (decimal_value (n * 10 + (d - 48)) ds) (omega arith)
    (value_below ds (n * 10 + (d - 48)) a.1))

numeral_digits : (ds : List ℕ) → Each is_digit ds → Numeral ds → ds ≡ decimal (decimal_value 0 ds)
unfolding decimal_value
numeral_digits [] a n = absurd (not-suc-le-zero n.some)
numeral_digits (d ∷ ds) a n = elim (dec_lt 48 d) [ yes h ↦ large h | no h ↦ zeros ds a.1 (n.first (omega (arith, digit_range d a.0))) ]
  where
    low : 48 ≤ d
    low = (digit_range d a.0).0

    most : d ≤ 57
    most = (digit_range d a.0).1

    large : 48 < d → d ∷ ds ≡ decimal (decimal_value (0 * 10 + (d - 48)) ds)
    large h =
        let same : 48 + (0 * 10 + (d - 48)) ≡ d = omega (arith, low) in
        ap {B = List ℕ} (λ r. r ++ ds) (sym (rw same at (decimal_small (0 * 10 + (d - 48)) (omega (arith, low, most)))))
        ∙ digits_after ds (0 * 10 + (d - 48)) (omega (arith, h)) a.1

    zeros : (t : List ℕ) → Each is_digit t → suc (length t) ≡ 1 → d ∷ t ≡ decimal (decimal_value (0 * 10 + (d - 48)) t)
    zeros [] b e =
        let same : 48 + (0 * 10 + (d - 48)) ≡ d = omega (arith, low) in
        sym (rw same at (decimal_small (0 * 10 + (d - 48)) (omega (arith, low, most))))
    zeros (c ∷ t) b e = absurd (omega (arith, e))

abbrev IsBad : Num → Type 0
IsBad bad = Unit {0}
IsBad (is v rest) = ⊥

-- what is read as a number
pub record NumberIs (t : List ℕ) (v : ℕ) (rest : List ℕ) : Type 0 where
  pub text : t ≡ decimal v ++ rest
  pub below : v < 10 ^ 7
  pub ends : is_digit (get_or rest 0 0) ≡ false

pub number_is : (t : List ℕ) (v : ℕ) (rest : List ℕ) → number t ≡ is v rest → NumberIs t v rest
unfolding number
number_is t v rest e = by (is_numeral (run is_digit t)) refl
  where
    ds : List ℕ
    ds = run is_digit t

    none_digit : is_digit 0 ≡ false
    none_digit = unfold is_digit in refl

    found : is_numeral ds ≡ true → decimal_value 0 ds ≡ v → drop (length ds) t ≡ rest → NumberIs t v rest
    found f same after =
        let n : Numeral ds = numeral_is ds f in
        record {
          text = run_splits is_digit t ∙ ap₂ {C = List ℕ} (λ x y. x ++ y) (numeral_digits ds (run_each is_digit t) n ∙ ap decimal same) after;
          below = rw (← same) (omega (arith, value_below ds 0 (run_each is_digit t), pow-le-pow_right {n = 10} (omega arith) {i = length ds} {j = 7} n.most));
          ends = rw (← after) (run_stops is_digit t none_digit);
        }

    by : (u : Bool) → is_numeral ds ≡ u → NumberIs t v rest
    by true f = let g : is (decimal_value 0 ds) (drop (length ds) t) ≡ is v rest = (rw f at e) in found f (cc) (cc)
    by false f = let g : bad ≡ is v rest = (rw f at e) in absurd (subst IsBad g tt)
