-- Alarms: names and lines that an easy mistake in the definitions would get wrong (01, "The file", "Easy to get wrong"), computed. Assumes
-- nothing.
use mathlib.Core.Bool.{true, false}
use mathlib.Core.List.{[], ◌∷◌, flat_map}
use mathlib.Core.Option.{none}
use mathlib.Core.Path.{◌≡◌, refl}
use lib.ListN.{replicate}
use Rattle.below.specs.Among.{among, member}
use Rattle.below.specs.Least.{least}
use Rattle.below.specs.Table.{table}
use Rattle.bits.specs.Bytes.{ascii, starts_with}
use Rattle.circuit.specs.Circuit.{gate_at}
use Rattle.circuit.specs.Literal.{variable, constant, may_define, too_large}
use Rattle.circuit.specs.Outcome.{taken, refused, refuse_if}
use Rattle.order.specs.Circle.{from, meets_itself, lowest_circle}
use Rattle.order.specs.Placing.{marked, waits, visit}
use Rattle.text.specs.GateUses.{definer, uses_of}
use Rattle.text.specs.Kind.{a_gate, used_by, latch_of, gate_of}
use Rattle.text.specs.Line.{prepend, fields, separators, numbers_of}
use Rattle.text.specs.Number.{is_digit, run, is_numeral, decimal_value, number}
use Rattle.text.specs.Numbers.{not_defined}
use Rattle.text.specs.Read.{lines_read}
use Rattle.text.specs.Rules.{first_of, bad_own, is_defined, unknown, any_unknown, input_rule, latch_rule, output_rule, gate_rule}
use Rattle.text.specs.Section.{judged, with_row, section, onward, used}
use Rattle.text.specs.Stages.{circled}
use Rattle.text.specs.Symbol.{is_name, symbol_lines, is_controllable_name}

pub prefix_at_the_start : (is_controllable_name (ascii "uncontrollable_a") ≡ false) × (is_controllable_name (ascii "Controllable_a") ≡ false)
    × (is_controllable_name (ascii "controllable_") ≡ true)
unfolding is_controllable_name starts_with
prefix_at_the_start = (refl, refl, refl)

pub name_of_200_bytes : (is_name (replicate 200 97) ≡ true) × (is_name (replicate 201 97) ≡ false)
unfolding is_name
name_of_200_bytes = (refl, refl)

-- a byte behind a line's last byte 10
pub nothing-behind_the_numbers : fields [] (ascii "2") ≡ none
unfolding fields
nothing-behind_the_numbers = refl

-- variable 1 is defined, variable 3 isn't
pub both_operands_defined : (used (1 ∷ []) 5 (used_by a_gate (4 ∷ 6 ∷ 2 ∷ []) ∷ []) ≡ refused not_defined 5)
    × (used (1 ∷ []) 5 (used_by a_gate (4 ∷ 2 ∷ 6 ∷ []) ∷ []) ≡ refused not_defined 5)
unfolding used refuse_if any_unknown is_defined unknown variable constant member among
both_operands_defined = (refl, refl)

-- a line further down may define the variable of a latch line's next-state literal or of an operand, and has its own 4 to 6 first
pub seven_of_a_latch_comes_late : (latch_rule 3).fault [] (2 ∷ 4 ∷ []) ≡ none
unfolding latch_rule first_of bad_own is_defined unknown variable constant may_define too_large member among
seven_of_a_latch_comes_late = refl

pub seven_of_a_gate_comes_late : (gate_rule 3).fault [] (2 ∷ 4 ∷ 6 ∷ []) ≡ none
unfolding gate_rule first_of bad_own is_defined unknown variable constant may_define too_large member among
seven_of_a_gate_comes_late = refl

-- the next state of the latch is the gate, and the gate uses the latch
pub latch_closes_no_circle : lines_read (record { largest = 2; inputs = 0; latches = 1; outputs = 1; gates = 1 })
    (ascii "2 4\n" ∷ ascii "4\n" ∷ ascii "4 2 2\n" ∷ []) ≡ taken (record {
      largest = 2;
      inputs = [];
      latches = record { own = 2; next = 4 } ∷ [];
      output = 4;
      gates = record { own = 4; left = 2; right = 2 } ∷ [];
      symbols = [];
      comment = none;
    })
unfolding lines_read section judged with_row onward used refuse_if circled symbol_lines latch_of gate_of input_rule latch_rule output_rule gate_rule first_of
    bad_own
    is_defined unknown any_unknown variable constant may_define too_large member among numbers_of separators fields prepend number run is_digit is_numeral
    decimal_value definer uses_of gate_at lowest_circle meets_itself from least visit waits marked table flat_map
latch_closes_no_circle = refl
