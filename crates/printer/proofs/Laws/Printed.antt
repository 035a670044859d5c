-- The print of the circuit that a lent one stands for, in the parts in which it is written. Assumes nothing.
use Prim.Native.Nat.{ℕ, min}
use mathlib.Core.List.{List, [], ◌∷◌, ◌++◌, map, flat_map, append-nil}
use mathlib.Core.Path.{◌≡◌, sym, ap, ◌∙◌}
use lib.ListN.{length, get_or, length-map}
use Rattle.below.proofs.Laws.Table.{length_table, table_get_or}
use Rattle.bits.specs.InTurn.{in_turn}
use Rattle.circuit.specs.Circuit.{Input, Latch, Gate, gate_at, gate_lines}
use Rattle.circuit.specs.Limits.{base}
use Rattle.circuit.specs.Stored.{literal_of, inputs_of, latches_of, gates_of, lent, on_lines, meant_lent}
use Rattle.circuit.specs.declared.lent.Lent.{Lent}
use Rattle.decimal.proofs.Laws.InTurn.{flat_map_table}
use Rattle.page.specs.Added.{Added}
use Rattle.page.specs.declared.Page.{Page}
use Rattle.page.proofs.Laws.Added.{added_both}
use Rattle.text.specs.Header.{word}
use Rattle.text.specs.Printed.{printed_symbols, printed_file, printed}
use Rattle.text.specs.Written.{number_line, symbol_line, comment_text, text_of}
use Rattle.printer.specs.Inner.Line.{input_line, latch_line, gate_text, gate_line, name_line}
use Rattle.printer.proofs.Laws.Tables.{flat_map_map, symbols_table, symbol_text}

module _ (l : Lent) where
  abbrev latches : ℕ
  latches = min (length l.latch.now) base.latches

  abbrev inputs_are : List Input
  inputs_are = inputs_of l.input.now l.controllable.now

  abbrev gates_are : List Gate
  gates_are = map (gate_at (gates_of l.gate.now l.left.now l.right.now)) l.lines.now

  inputs_print : flat_map (λ own. number_line (own ∷ [])) (map (λ (i : Input). i.own) inputs_are) ≡ in_turn (input_line l) (length l.input.now)
  unfolding inputs_of
  inputs_print =
      flat_map_map (λ own. number_line (own ∷ [])) (λ (i : Input). i.own) inputs_are
      ∙ flat_map_table (λ (i : Input). number_line (i.own ∷ [])) _ (length l.input.now)

  latches_print : flat_map (λ (k : Latch). number_line (k.own ∷ k.next ∷ [])) (latches_of l.latch.now l.next.now) ≡ in_turn (latch_line l) latches
  unfolding latches_of
  latches_print = flat_map_table (λ (k : Latch). number_line (k.own ∷ k.next ∷ [])) _ latches

  gates_print : flat_map gate_text gates_are ≡ in_turn (gate_line l) (length l.lines.now)
  gates_print =
      flat_map_map gate_text (gate_at (gates_of l.gate.now l.left.now l.right.now)) l.lines.now
      ∙ ap (flat_map (λ k. gate_text (gate_at (gates_of l.gate.now l.left.now l.right.now) k))) (sym (table_get_or l.lines.now 0))
      ∙ flat_map_table (λ k. gate_text (gate_at (gates_of l.gate.now l.left.now l.right.now) k)) (λ i. get_or l.lines.now i 0) (length l.lines.now)

  names_print : flat_map symbol_line (printed_symbols 0 inputs_are) ≡ in_turn (name_line l) (length l.input.now)
  unfolding inputs_of name_line symbol_text
  names_print = symbols_table _ (length l.input.now)

  inputs_long : length (map (λ (i : Input). i.own) inputs_are) ≡ length l.input.now
  unfolding inputs_of
  inputs_long = simp (length-map, length_table)

  latches_long : length (latches_of l.latch.now l.next.now) ≡ latches
  unfolding latches_of
  latches_long = length_table _ latches

  gates_long : length gates_are ≡ length l.lines.now
  gates_long = length-map l.lines.now (gate_at (gates_of l.gate.now l.left.now l.right.now))

  abbrev parts : List ℕ
  parts =
      word
      ++ number_line (l.largest ∷ length l.input.now ∷ latches ∷ 1 ∷ length l.lines.now ∷ [])
      ++ in_turn (input_line l) (length l.input.now)
      ++ in_turn (latch_line l) latches
      ++ number_line (literal_of l.output ∷ [])
      ++ in_turn (gate_line l) (length l.lines.now)
      ++ in_turn (name_line l) (length l.input.now)

  printed_parts : printed (meant_lent l) ≡ parts
  unfolding printed printed_file text_of meant_lent on_lines lent gate_lines comment_text
  printed_parts =
      let whole : printed (meant_lent l) ≡ parts ++ [] =
      rw (inputs_long, latches_long, gates_long, inputs_print, latches_print, gates_print, names_print) in whole ∙ append-nil parts

  -- the parts put one behind the other are the print
  pub added_printed :
      {largest few output : ℕ} {p q r s t u v w : Page} → largest ≡ l.largest → few ≡ latches → output ≡ literal_of l.output → Added word p q
      → Added (number_line (largest ∷ length l.input.now ∷ few ∷ 1 ∷ length l.lines.now ∷ [])) q r
      → Added (in_turn (input_line l) (length l.input.now)) r s → Added (in_turn (latch_line l) few) s t → Added (number_line (output ∷ [])) t u
      → Added (in_turn (gate_line l) (length l.lines.now)) u v → Added (in_turn (name_line l) (length l.input.now)) v w
      → Added (printed (meant_lent l)) p w
  added_printed {q = q} {r} {s} {t} {u} e f g a b c d h i j =
      let header : Added (number_line (l.largest ∷ length l.input.now ∷ latches ∷ 1 ∷ length l.lines.now ∷ [])) q r = rw (← e, ← f) b in
      let few_latches : Added (in_turn (latch_line l) latches) s t = rw (← f) d in
      let last : Added (number_line (literal_of l.output ∷ [])) t u = rw (← g) h in
      rw printed_parts
      (added_both (added_both (added_both (added_both (added_both (added_both a header) c) few_latches) last) i) j)
