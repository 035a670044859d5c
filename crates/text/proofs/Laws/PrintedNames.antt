-- An alarm (01, "The numbers", last paragraph): the position in a printed symbol is the input's among all inputs, computed.
-- Assumes nothing.
use mathlib.Core.Bool.{true, false}
use mathlib.Core.List.{[], ◌∷◌}
use mathlib.Core.Path.{◌≡◌, refl}
use Rattle.bits.specs.Bytes.{ascii}
use Rattle.text.specs.Number.{decimal_within, decimal}
use Rattle.text.specs.Printed.{printed_symbols}
use Rattle.text.specs.Symbol.{input_letter}

pub position_among_inputs : printed_symbols 0 (record { own = 2; controllable = false } ∷ record { own = 4; controllable = true } ∷ []) ≡
    record { letter = input_letter; position = 1; name = ascii "controllable_1" } ∷ []
unfolding printed_symbols decimal decimal_within
position_among_inputs = refl
