-- What the code's answer says of the number at a place of a text (01, "The file"). Assumes nothing.
use Rattle.std.specs.Prelude.{ℕ, ◌^◌, ◌≤◌, ◌<◌, true, List, ◌≡◌, length, get_or, drop, Option, Some, None}
use Rattle.fields.specs.declared.number.Numeral.{Numeral}
use Rattle.text.specs.Number.{is_digit, number, is, bad}

-- digits, and no more than a number may have
pub record Digits (ds : List ℕ) : Type 0 where
  pub few : length ds ≤ 7
  pub each : (i : ℕ) → i < length ds → is_digit (get_or ds i 0) ≡ true

abbrev pub NumberAt : List ℕ → ℕ → Option Numeral → Type 0
NumberAt s at (Some n) = (number (drop at s) ≡ is n.value (drop n.behind s)) × (n.behind ≤ length s) × (n.value < 10 ^ 7)
NumberAt s at None = number (drop at s) ≡ bad
