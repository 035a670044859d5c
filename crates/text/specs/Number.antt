-- A number (01, "The file"): one to seven decimal digits, without a leading zero unless it is 0 itself. Assumes nothing.
use Rattle.std.specs.Prelude.{ℕ, zero, suc, ◌+◌, ◌*◌, ◌-◌, ◌/◌, ◌%◌, Bool, cond, not, ◌&&◌, ◌||◌, List, [], ◌∷◌, ◌++◌, eqb, leb, ltb, length, get_or, drop}

unfoldable pub is_digit : ℕ → Bool
is_digit b = leb 48 b && leb b 57

-- the bytes that a text begins with and that pass a test
unfoldable pub run : (ℕ → Bool) → List ℕ → List ℕ
run p [] = []
run p (b ∷ t) = let more = b ∷ run p t in cond (p b) more []

unfoldable pub is_numeral : List ℕ → Bool
is_numeral ds = leb 1 (length ds) && leb (length ds) 7 && (not (eqb (get_or ds 0 0) 48) || eqb (length ds) 1)

-- what decimal digits say, after those that said n
unfoldable pub decimal_value : ℕ → List ℕ → ℕ
decimal_value n [] = n
decimal_value n (d ∷ ds) = decimal_value (n * 10 + (d - 48)) ds

-- the number that a text begins with, and the text behind it
pub data Num : Type 0 where
  is : (value : ℕ) (rest : List ℕ) → Num
  bad : Num

unfoldable pub number : List ℕ → Num
number t = let ds = run is_digit t in cond (is_numeral ds) (is (decimal_value 0 ds) (drop (length ds) t)) bad

-- the decimal digits of n, at most as many as fuel allows
unfoldable pub decimal_within : ℕ → ℕ → List ℕ
decimal_within zero n = []
decimal_within (suc fuel) n =
    let front = decimal_within fuel (n / 10) ++ ((48 + n % 10) ∷ []) in
    cond (ltb n 10) ((48 + n) ∷ []) front

-- n as a number is written
unfoldable pub decimal : ℕ → List ℕ
decimal n = decimal_within (suc n) n
