-- The starred cases hold: one claim over all rows, computed from the definitions. Assumes nothing.
use mathlib.Core.Path.{◌≡◌, refl}
use mathlib.Core.List.{map, flat_map}
use Rattle.bits.specs.Bit.{bit, odd, one_if}
use Rattle.bits.specs.BitBytes.{bit_byte, bit_bytes, unused_bit}
use Rattle.bits.specs.ByteBit.{byte_bit}
use Rattle.bits.specs.Bytes.{same_bytes, starts_with}
use Rattle.bits.specs.Digits.{digits, sum}
use Rattle.below.specs.Among.{among, member}
use Rattle.below.specs.Least.{least, any, every}
use Rattle.below.specs.Table.{table}
use Rattle.circuit.specs.Circuit.{gate_at, inputs_that, latch_count, uncontrollable_count, controllable_count, too_many}
use Rattle.circuit.specs.Literal.{variable, inverted, constant, may_define, too_large}
use Rattle.circuit.specs.Outcome.{refuse_if}
use Rattle.circuit.specs.Reset.{is_reset}
use Rattle.order.specs.Circle.{from, meets_itself, lowest_circle}
use Rattle.order.specs.Place.{place_in}
use Rattle.order.specs.Placing.{marked, waits, visit, visits, placed, order_of}
use Rattle.text.specs.GateUses.{definer, uses_of, evaluation, evaluated}
use Rattle.text.specs.Header.{header_numbers, header_of, within_limits}
use Rattle.text.specs.Kind.{latch_of, gate_of}
use Rattle.text.specs.Line.{before, lines, prepend, fields, separators, numbers_of}
use Rattle.text.specs.Number.{is_digit, run, is_numeral, decimal_value, number, decimal_within, decimal}
use Rattle.text.specs.Read.{or_bad_header, lines_read, file_read, circuit_read}
use Rattle.text.specs.Rules.{first_of, bad_own, is_defined, unknown, any_unknown, input_rule, latch_rule, output_rule, gate_rule}
use Rattle.text.specs.Section.{judged, with_row, section, onward, used}
use Rattle.text.specs.Stages.{circled}
use Rattle.text.specs.Symbol.{positions, is_name_byte, is_name, names, symbol_at, symbol_of, is_comment, or_bad_symbol, symbol_lines, is_controllable_name}
use Rattle.text.specs.Symbol.{is_controllable}
use Rattle.text.specs.TextFile.{circuit_of}
use Rattle.text.specs.Written.{number_line}
use Rattle.step.specs.Step.{error_of, next_of, step}
use Rattle.step.specs.Value.{literal_value, put, with_inputs, with_latches, with_gates, valuation}
use Rattle.game.specs.Attack.{attack, attack_broken}
use Rattle.game.specs.CircuitGame.{circuit_game, is_realizable}
use Rattle.game.specs.Keeps.{keeps, answered, safe}
use Rattle.game.specs.Listing.{reply_line, attack_line, listing_of}
use Rattle.game.specs.Rank.{not_ranked, defeats, defeated, round, ranks_after, rank, in_region}
use Rattle.game.specs.Reply.{reply, reply_broken}
use Rattle.game.specs.Verdict.{realizable}
use Rattle.records.specs.AttackTable.{attack_length, stored_rank, stored_attack, attack_bytes}
use Rattle.records.specs.Record.{record_of, contents_length, split}
use Rattle.records.specs.RegionBits.{region_length, holds_state, unused_bit_set, region_bytes}
use Rattle.records.specs.ReplyBytes.{reply_length, byte_reply, reply_bytes}
use Rattle.records.specs.ReplyTable.{table_length, stored_reply, unused_reply_bit, table_bytes}
use Rattle.records.specs.Tables.{third_of, second_of, first_of as first_record, tables_of, circuit_part}
use Rattle.file.specs.CircuitIn.{circuit_in}
use Rattle.listing.specs.Page.{verdict_word, listing_text, refusal_text, page_for, page_of}
use Rattle.checker.specs.Check.{or_bad_shape, or_retired, tables_checked, chain_of, check_of}
use Rattle.checker.specs.Rules.{bad_reply_tables, bad_attack_table, reset_outside, reset_unranked, broken_reply, broken_attack}
use Rattle.writer.specs.Certificate.{reply_certificate, attack_certificate, certificate_of, certified}
use Rattle.cases.specs.Starred.{lengths_of, answer_to}
use Rattle.cases.specs.Starred.{Row, starred}

pub starred_hold : map (λ (row : Row). answer_to row.asked) starred ≡ map (λ (row : Row). row.expected) starred
unfolding flat_map bit odd one_if byte_bit same_bytes starts_with digits sum among member least any every table inputs_that latch_count uncontrollable_count
    controllable_count variable inverted constant may_define too_large refuse_if is_reset header_numbers header_of within_limits before lines prepend fields
    separators numbers_of is_digit run is_numeral decimal_value number latch_of gate_of or_bad_header lines_read file_read circuit_read first_of bad_own
    is_defined
    unknown any_unknown input_rule latch_rule output_rule gate_rule judged with_row section onward used gate_at definer uses_of circled lowest_circle
    meets_itself
    from marked waits visit visits placed order_of place_in evaluation evaluated positions is_name_byte is_name names symbol_at symbol_of is_comment
    or_bad_symbol symbol_lines is_controllable_name is_controllable circuit_of too_many error_of next_of step literal_value put with_inputs with_latches
    with_gates
    valuation attack attack_broken circuit_game is_realizable keeps answered safe reply_line attack_line listing_of not_ranked defeats defeated round
    ranks_after rank in_region reply reply_broken realizable attack_length stored_rank stored_attack attack_bytes record_of contents_length split region_length
    holds_state unused_bit_set unused_bit bit_byte bit_bytes region_bytes reply_length byte_reply reply_bytes table_length stored_reply unused_reply_bit
    table_bytes
    third_of second_of first_record tables_of circuit_part circuit_in or_bad_shape or_retired tables_checked chain_of check_of bad_reply_tables
    bad_attack_table reset_outside
    reset_unranked broken_reply broken_attack reply_certificate attack_certificate certificate_of certified decimal_within decimal number_line verdict_word
    listing_text refusal_text page_for page_of lengths_of answer_to
starred_hold = refl
