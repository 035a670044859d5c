-- Reading is complete: whatever is written for a file as document 01 asks is taken, and as that file. Assumes nothing.
use Prim.Native.Nat.{ℕ, suc, ◌+◌, ◌^◌}
use native.Mathlib.Omega.{arith}
use mathlib.Core.Bool.{true}
use mathlib.Core.List.{List, [], ◌∷◌, ◌++◌, map, append-nil}
use mathlib.Core.Path.{◌≡◌, refl, sym, ap, ◌∙◌}
use lib.ListN.{length, get_or, length-map}
use borrow.Author.Tests.{le-ltb}
use Rattle.bits.specs.Digits.{AllBelow}
use Rattle.circuit.specs.Circuit.{Latch, Gate}
use Rattle.circuit.specs.Limits.{Limits}
use Rattle.circuit.specs.Literal.{variable}
use Rattle.circuit.specs.Outcome.{taken, refuse_if}
use Rattle.text.specs.Headed.{row_of}
use Rattle.text.specs.Header.{header_of}
use Rattle.text.specs.InList.{All}
use Rattle.text.specs.Kind.{a_latch, a_gate, used_by, latch_of, gate_of}
use Rattle.text.specs.Line.{lines}
use Rattle.text.specs.Read.{or_bad_header, lines_read, file_read}
use Rattle.text.specs.Rules.{Rule, input_rule, latch_rule, output_rule, gate_rule}
use Rattle.text.specs.Section.{section, onward, used}
use Rattle.text.specs.Stages.{circled}
use Rattle.text.specs.Symbol.{symbol_lines}
use Rattle.text.specs.TextFile.{TextFile}
use Rattle.text.specs.WellFormed.{WellFormed, Known, Apart, of_inputs_and_latches, defined_in}
use Rattle.text.specs.Within.{Within}
use Rattle.text.specs.Written.{number_line, text_of}
use Rattle.text.proofs.Laws.Circle.{none_circled}
use Rattle.text.proofs.Laws.Header.{header_for, header_numbers_lem, within_of}
use Rattle.text.proofs.Laws.Lines.{body_lines, behind_text, lines_text}
use Rattle.text.proofs.Laws.Lists.{Differ, all_append, all_weaker, all_map, pairs_left, pairs_fresh}
use Rattle.text.proofs.Laws.Rules.{input_row, latch_row, gate_row, inputs_fine, latches_fine, output_fine, gates_fine, news_items}
use Rattle.text.proofs.Laws.Section.{AllFine, section_fine}
use Rattle.text.proofs.Laws.Symbol.{symbol_lines_good}
use Rattle.text.proofs.Laws.SymbolRule.{symbols_good}
use Rattle.text.proofs.Laws.Used.{used-known}

-- a section of items that define, none of its lines at fault
section_items : {A : Type 0} (rule : Rule) (c : ℕ) (row : A → List ℕ) (own : A → ℕ) (xs : List A) (place : ℕ) (defined : List ℕ) (rest : List (List ℕ))
    → rule.count ≡ suc c → rule.defines ≡ true → ((x : A) → get_or (row x) 0 0 ≡ own x) → AllFine rule defined (map row xs)
    → section rule (length xs) place (record { rows = []; defined = defined; rest = map number_line (map row xs) ++ rest }) ≡ taken
    (record { rows = map row xs; defined = defined ++ map (λ x. variable (own x)) xs; rest = rest })
section_items rule c row own xs place defined rest e d o f =
    ap (λ (n : ℕ). section rule n place (record { rows = []; defined = defined; rest = map number_line (map row xs) ++ rest })) (sym (length-map xs row))
    ∙ section_fine rule c (map row xs) place [] defined rest e f
    ∙ λ x. taken (record { rows = map row xs; defined = defined ++ news_items rule row own d o xs x; rest = rest })

map_back : {A : Type 0} (row : A → List ℕ) (item : List ℕ → A) → ((x : A) → item (row x) ≡ x) → (xs : List A) → map item (map row xs) ≡ xs
map_back row item e [] = refl
map_back row item e (x ∷ xs) = λ i. e x i ∷ map_back row item e xs i

-- the lines behind the output, the latches and the inputs
abbrev after_output : TextFile → List (List ℕ)
after_output f = map number_line (map gate_row f.gates) ++ lines (behind_text f)

abbrev after_latches : TextFile → List (List ℕ)
after_latches f = map number_line ((f.output ∷ []) ∷ []) ++ after_output f

abbrev after_inputs : TextFile → List (List ℕ)
after_inputs f = map number_line (map latch_row f.latches) ++ after_latches f

abbrev of_latches : TextFile → List ℕ
of_latches f = map (λ (l : Latch). variable l.own) f.latches

abbrev of_gates : TextFile → List ℕ
of_gates f = map (λ (g : Gate). variable g.own) f.gates

module _ (limits : Limits) (f : TextFile) (w : WellFormed limits f) where
  inputs_taken : section (input_rule f.largest) (length f.inputs) 2
      (record { rows = []; defined = []; rest = body_lines f (lines (behind_text f)) }) ≡ taken
      (record { rows = map input_row f.inputs; defined = map variable f.inputs; rest = after_inputs f })
  unfolding input_rule
  inputs_taken =
      section_items (input_rule f.largest) 0 input_row (λ x. x) f.inputs 2 [] (after_inputs f) refl refl (λ x. refl)
      (inputs_fine f.largest [] f.inputs w.digits w.inputs
      (pairs_fresh Differ [] (map variable f.inputs) (pairs_left Differ (map variable f.inputs) (of_latches f)
      (pairs_left Differ (of_inputs_and_latches f) (of_gates f) w.once))))

  latches_taken : section (latch_rule f.largest) (length f.latches) (2 + length f.inputs)
      (record { rows = []; defined = map variable f.inputs; rest = after_inputs f }) ≡ taken
      (record { rows = map latch_row f.latches; defined = of_inputs_and_latches f; rest = after_latches f })
  unfolding latch_rule
  latches_taken =
      section_items (latch_rule f.largest) 1 latch_row (λ l. l.own) f.latches (2 + length f.inputs) (map variable f.inputs) (after_latches f)
      refl refl (λ x. refl)
      (latches_fine f.largest (map variable f.inputs) f.latches w.digits w.latches
      (pairs_fresh Differ (map variable f.inputs) (of_latches f) (pairs_left Differ (of_inputs_and_latches f) (of_gates f) w.once)))

  output_taken : section (output_rule f.largest) 1 (2 + length f.inputs + length f.latches)
      (record { rows = []; defined = of_inputs_and_latches f; rest = after_latches f }) ≡ taken
      (record { rows = (f.output ∷ []) ∷ []; defined = of_inputs_and_latches f; rest = after_output f })
  unfolding output_rule
  output_taken =
      section_fine (output_rule f.largest) 0 ((f.output ∷ []) ∷ []) (2 + length f.inputs + length f.latches) [] (of_inputs_and_latches f)
      (after_output f) refl (output_fine f.largest (of_inputs_and_latches f) f.output w.digits w.output)
      ∙ λ x. taken (record { rows = (f.output ∷ []) ∷ []; defined = append-nil (of_inputs_and_latches f) x; rest = after_output f })

  gates_taken : section (gate_rule f.largest) (length f.gates) (3 + length f.inputs + length f.latches)
      (record { rows = []; defined = of_inputs_and_latches f; rest = after_output f }) ≡ taken
      (record { rows = map gate_row f.gates; defined = defined_in f; rest = lines (behind_text f) })
  unfolding gate_rule
  gates_taken =
      section_items (gate_rule f.largest) 2 gate_row (λ g. g.own) f.gates (3 + length f.inputs + length f.latches) (of_inputs_and_latches f)
      (lines (behind_text f)) refl refl (λ x. refl)
      (gates_fine f.largest (of_inputs_and_latches f) f.gates w.digits w.gates
      (pairs_fresh Differ (of_inputs_and_latches f) (of_gates f) w.once))

  -- what latches, output and gates use
  abbrev used_latches : List (List ℕ)
  used_latches = map (used_by a_latch) (map latch_row f.latches)

  abbrev used_gates : List (List ℕ)
  used_gates = map (used_by a_gate) (map gate_row f.gates)

  abbrev AllKnown : List ℕ → Type 0
  AllKnown ls = All (Known (defined_in f)) ls

  used_taken : used (defined_in f) (2 + length f.inputs) (used_latches ++ ((f.output ∷ []) ∷ used_gates)) ≡ taken tt
  used_taken =
      used-known (defined_in f) (2 + length f.inputs) (used_latches ++ ((f.output ∷ []) ∷ used_gates))
      (all_append AllKnown used_latches ((f.output ∷ []) ∷ used_gates)
      (all_map AllKnown (used_by a_latch) (map latch_row f.latches)
      (all_map (λ (fs : List ℕ). AllKnown (used_by a_latch fs)) latch_row f.latches
      (all_weaker (λ (l : Latch). Known (defined_in f) l.next) (λ (l : Latch). AllKnown (l.next ∷ [])) (λ l k. (k, tt)) f.latches w.nexts))) (
        (w.error, tt),
        all_map AllKnown (used_by a_gate) (map gate_row f.gates)
            (all_map (λ (fs : List ℕ). AllKnown (used_by a_gate fs)) gate_row f.gates
            (all_weaker (λ (g : Gate). Known (defined_in f) g.left × Known (defined_in f) g.right) (λ (g : Gate). AllKnown (g.left ∷ g.right ∷ []))
            (λ g k. (k.0, (k.1, tt))) f.gates w.operands)),
      ))

  gates_back : map gate_of (map gate_row f.gates) ≡ f.gates
  unfolding gate_of
  gates_back = map_back gate_row gate_of (λ g. refl) f.gates

  circle_taken : circled (3 + length f.inputs + length f.latches) (map gate_of (map gate_row f.gates)) ≡ taken tt
  circle_taken = ap (circled (3 + length f.inputs + length f.latches)) gates_back
      ∙ none_circled f.gates (3 + length f.inputs + length f.latches) w.no_circle

  symbols_taken : symbol_lines (header_for f) (3 + length f.inputs + length f.latches + length f.gates) [] (lines (behind_text f)) ≡ taken
      (record { symbols = f.symbols; comment = f.comment })
  symbols_taken = symbol_lines_good (header_for f) f.symbols (3 + length f.inputs + length f.latches + length f.gates) [] f.comment
      (symbols_good f [] f.symbols w.room w.digits w.symbols (pairs_fresh Apart [] f.symbols w.apart))

  lines_taken : lines_read (header_for f) (body_lines f (lines (behind_text f))) ≡ taken f
  unfolding lines_read onward latch_of gate_of
  lines_taken =
      rw (inputs_taken, latches_taken, output_taken, gates_taken, used_taken, circle_taken, symbols_taken)
      (λ x.
      taken (record {
        largest = f.largest;
        inputs = map_back input_row (λ (fs : List ℕ). get_or fs 0 0) (λ y. refl) f.inputs x;
        latches = map_back latch_row latch_of (λ l. refl) f.latches x;
        output = f.output;
        gates = gates_back x;
        symbols = f.symbols;
        comment = f.comment;
      }))

  header_below : AllBelow (10 ^ 7) (row_of (header_for f))
  header_below = (
    omega (arith, w.digits),
    (
      omega (arith, w.digits, w.room),
      (omega (arith, w.digits, w.room), (omega arith, (omega (arith, w.digits, w.room), tt))),
    ),
  )

  header_within : limits.outputs ≡ 1 → Within limits (header_for f)
  header_within one = record { largest = w.largest; inputs = w.input_count; latches = w.latch_count; outputs = sym one; room = w.room }

  pub complete : limits.outputs ≡ 1 → file_read limits (text_of f) ≡ taken f
  unfolding file_read refuse_if or_bad_header header_of
  complete one =
      rw (
        le-ltb limits.file (length (text_of f)) w.file,
        lines_text f,
        header_numbers_lem (header_for f) header_below,
        within_of limits (header_for f) (header_within one),
      ) lines_taken
