-- What holds of the digits of a number and of the sum of digits, in every base and at every width. Assumes nothing.
use Prim.Native.Nat.{ℕ, zero, suc, ◌+◌, ◌*◌, ◌/◌, ◌%◌, ◌^◌, ◌<◌}
use native.Mathlib.Omega.{arith}
use native.Mathlib.Nat.{not-suc-le-zero, le_of_suc-le-suc, pow-zero, pow-suc, mod-one, mod-lt, div-one, mul_comm, add_comm}
use native.Mathlib.Nat.{div-div-eq-div-mul, one-le-pow}
use lib.Arith.{mod-mul, digits_lt, digits_div, digits_mod}
use mathlib.Core.List.{List, [], ◌∷◌}
use mathlib.Core.Path.{◌≡◌, refl, sym, ap, ap₂, ◌∙◌}
use lib.ListN.{length, get_or}
use Rattle.bits.specs.Digits.{digits, sum, AllBelow}

pub length_digits : (b w n : ℕ) → length (digits b w n) ≡ w
unfolding digits
length_digits b zero n = refl
length_digits b (suc w) n = ap suc (length_digits b w (n / b))

pub digits_below : (b w n : ℕ) → 0 < b → AllBelow b (digits b w n)
unfolding digits
digits_below b zero n h = tt
digits_below b (suc w) n h = (mod-lt n h, digits_below b w (n / b) h)

-- the digits of a number add up to what they can hold of it
pub sum-digits : (b w n : ℕ) → 0 < b → sum b (digits b w n) ≡ n % b ^ w
unfolding digits sum
sum-digits b zero n h = sym (mod-one n) ∙ ap (λ (m : ℕ). n % m) (sym (pow-zero b))
sum-digits b (suc w) n h =
    rw (sum-digits b w (n / b) h, pow-suc, mod-mul n {m = b ^ w} {c = b} (one-le-pow w b h) h)
    (omega (arith, mul_comm b (n / b % b ^ w)))

pub sum_below : (b : ℕ) (ds : List ℕ) → AllBelow b ds → sum b ds < b ^ length ds
unfolding sum
sum_below b [] h = rw pow-zero (omega arith)
sum_below b (d ∷ ds) h =
    rw (pow-suc, add_comm, mul_comm b (sum b ds)) (digits_lt (sum_below b ds h.1) h.0)

-- digits are read back from their sum
pub digits_sum : (b : ℕ) (ds : List ℕ) → AllBelow b ds → digits b (length ds) (sum b ds) ≡ ds
unfolding digits sum
digits_sum b [] h = refl
digits_sum b (d ∷ ds) h = ap₂ {C = List ℕ} (λ x xs. x ∷ xs) low (ap (digits b (length ds)) high ∙ digits_sum b ds h.1)
  where
    turned : d + b * sum b ds ≡ sum b ds * b + d
    turned = omega (arith, mul_comm b (sum b ds))

    low : (d + b * sum b ds) % b ≡ d
    low = rw turned (digits_mod (sum b ds) h.0)

    high : (d + b * sum b ds) / b ≡ sum b ds
    high = rw turned (digits_div (sum b ds) h.0)

-- what lies above the digits isn't read
pub digits_mod_pow : (b w n : ℕ) → 0 < b → digits b w (n % b ^ w) ≡ digits b w n
digits_mod_pow b w n h =
    sym (ap (digits b w) (sum-digits b w n h))
    ∙ ap (λ (k : ℕ). digits b k (sum b (digits b w n))) (sym (length_digits b w n))
    ∙ digits_sum b (digits b w n) (digits_below b w n h)

pub get_or-digits : (b w n k : ℕ) → k < w → get_or (digits b w n) k 0 ≡ n / b ^ k % b
unfolding digits
get_or-digits b zero n k h = absurd (not-suc-le-zero h)
get_or-digits b (suc w) n zero h = ap (λ (m : ℕ). m % b) (sym (div-one n) ∙ ap (λ (m : ℕ). n / m) (sym (pow-zero b)))
get_or-digits b (suc w) n (suc k) h =
    get_or-digits b w (n / b) k (le_of_suc-le-suc h)
    ∙ ap (λ (m : ℕ). m % b) (div-div-eq-div-mul n b (b ^ k) ∙ ap (λ (m : ℕ). n / m) (mul_comm b (b ^ k) ∙ sym (pow-suc b k)))

pub all_below_of : (b : ℕ) (ds : List ℕ) → ((i : ℕ) → i < length ds → get_or ds i 0 < b) → AllBelow b ds
all_below_of b [] h = tt
all_below_of b (d ∷ ds) h = (h zero (omega arith), all_below_of b ds (λ i l. h (suc i) (omega arith)))
