-- A number is written as std prints it. Assumes nothing.
use Prim.Native.Nat.{ℕ, ◌+◌, ◌%◌, ◌^◌, ◌<◌}
use mathlib.Core.List.{List, [], ◌∷◌, ◌++◌}
use mathlib.Core.Path.{◌≡◌, sym, ap, ◌∙◌}
use Rattle.std.specs.Fmt.{decimal as printed}
use Rattle.std.proofs.lemmas.Fmt.{decimal_by_steps}
use Rattle.text.specs.Number.{decimal}
use Rattle.text.proofs.Laws.Decimal.{decimal_small, decimal_more}

pub printed_decimal : (n : ℕ) → n < 2 ^ 64 → printed n ≡ decimal n
printed_decimal = decimal_by_steps (λ n ds. ds ≡ decimal n) (λ n h. sym (decimal_small n h))
    (λ n ds h e. ap (λ (l : List ℕ). l ++ ((48 + n % 10) ∷ [])) e ∙ sym (decimal_more n h))
