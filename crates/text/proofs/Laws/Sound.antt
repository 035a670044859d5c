-- Reading is sound: a file that is taken is, byte for byte, the text that is written for what was read, and that is as document 01 asks.
-- Assumes nothing.
use Prim.Native.Nat.{ℕ, ◌+◌, ◌*◌, ◌^◌, ◌<◌, ◌≤◌}
use native.Mathlib.Omega.{arith}
use mathlib.Core.List.{List, [], ◌∷◌, ◌++◌, map, flat_map, append-nil, append_assoc}
use mathlib.Core.Logic.{◌≢◌}
use mathlib.Core.Path.{◌≡◌, refl, sym, ap, ap₂, ◌∙◌, subst}
use lib.ListN.{length, get_or, drop, length-map}
use borrow.Author.Tests.{ltb-false, not-false}
use Rattle.circuit.specs.Circuit.{Latch, Gate}
use Rattle.circuit.specs.Limits.{Limits}
use Rattle.circuit.specs.Literal.{variable}
use Rattle.circuit.specs.Outcome.{taken}
use Rattle.text.specs.Headed.{row_of, Headed}
use Rattle.text.specs.Header.{Header, word}
use Rattle.text.specs.InList.{All, Pairs}
use Rattle.text.specs.Kind.{a_latch, the_output, a_gate, used_by, latch_of, gate_of}
use Rattle.text.specs.Line.{lines}
use Rattle.text.specs.Numbers.{file_too_long, header_limit}
use Rattle.text.specs.Read.{file_read}
use Rattle.text.specs.Rules.{input_rule, latch_rule, output_rule, gate_rule}
use Rattle.text.specs.Section.{onward}
use Rattle.text.specs.Stages.{late_of}
use Rattle.text.specs.TextFile.{TextFile}
use Rattle.text.specs.WellFormed.{WellFormed, Defining, LatchLine, GateLine, Known, ReachesItself, Apart, SymbolLine, of_inputs_and_latches, defined_in}
use Rattle.text.specs.Within.{Within}
use Rattle.text.specs.Written.{number_line, symbol_line, comment_text, text_of}
use Rattle.text.proofs.Laws.Circle.{circled_none}
use Rattle.text.proofs.Laws.Header.{header_for, headed_lines, header_taken, within_is}
use Rattle.text.proofs.Laws.Line.{flat-lines}
use Rattle.text.proofs.Laws.Lines.{behind_text, text_by_rows}
use Rattle.text.proofs.Laws.Lists.{Fresh, all_left, all_right, all_weaker, all_map, map_all, fresh_pairs}
use Rattle.text.proofs.Laws.Outcome.{bind_taken, then_taken, refuse_none}
use Rattle.text.proofs.Laws.Rules.{input_row, latch_row, gate_row, LinesAre, inputs_are, latches_are, output_is, gates_are, news_items}
use Rattle.text.proofs.Laws.Section.{news, AllFine, Whole, section-whole}
use Rattle.text.proofs.Laws.Stages.{file_of, Parts, parts}
use Rattle.text.proofs.Laws.Symbol.{AllGood, SymbolsAre, symbol_lines_are}
use Rattle.text.proofs.Laws.SymbolRule.{good_symbols}
use Rattle.text.proofs.Laws.Used.{known-used}

flat_rows-lines : (rows ls : List (List ℕ)) → flat_map (λ l. l) (map number_line rows ++ ls) ≡ flat_map number_line rows ++ flat_map (λ l. l) ls
unfolding flat_map
flat_rows-lines [] ls = refl
flat_rows-lines (r ∷ rows) ls = ap {B = List ℕ} (λ t. number_line r ++ t) (flat_rows-lines rows ls)
    ∙ sym (append_assoc (number_line r) (flat_map number_line rows) (flat_map (λ l. l) ls))

section_text : (rows same before after : List (List ℕ)) → before ≡ map number_line rows ++ after → rows ≡ same
    → flat_map (λ l. l) before ≡ flat_map number_line same ++ flat_map (λ l. l) after
section_text rows same before after e r = ap (flat_map (λ l. l)) e ∙ flat_rows-lines rows after
    ∙ ap (λ (x : List (List ℕ)). flat_map number_line x ++ flat_map (λ l. l) after) r

-- an output defines nothing
output_news : (M : ℕ) (rows : List (List ℕ)) → news (output_rule M) rows ≡ []
unfolding output_rule
output_news M [] = refl
output_news M (r ∷ rows) = output_news M rows

module _ (h : Header) (rest : List (List ℕ)) (f : TextFile) (p : Parts h rest f) where
  abbrev F : TextFile
  F = file_of h p.inputs p.latches p.output p.gates p.behind

  inputs_whole : Whole (input_rule h.largest) h.inputs [] rest p.inputs
  unfolding input_rule
  inputs_whole = section-whole (input_rule h.largest) 0 h.inputs 2 [] rest p.inputs refl p.inputs_taken

  latches_whole : Whole (latch_rule h.largest) h.latches p.inputs.defined p.inputs.rest p.latches
  unfolding latch_rule onward
  latches_whole = section-whole (latch_rule h.largest) 1 h.latches (2 + h.inputs) p.inputs.defined p.inputs.rest p.latches refl
      p.latches_taken

  output_whole : Whole (output_rule h.largest) 1 p.latches.defined p.latches.rest p.output
  unfolding output_rule onward
  output_whole = section-whole (output_rule h.largest) 0 1 (2 + h.inputs + h.latches) p.latches.defined p.latches.rest p.output refl
      p.output_taken

  gates_whole : Whole (gate_rule h.largest) h.gates p.output.defined p.output.rest p.gates
  unfolding gate_rule onward
  gates_whole = section-whole (gate_rule h.largest) 2 h.gates (3 + h.inputs + h.latches) p.output.defined p.output.rest p.gates refl
      p.gates_taken

  input_lines : LinesAre input_row (λ x. x) (Defining h.largest) [] p.inputs.rows F.inputs
  input_lines = inputs_are h.largest [] p.inputs.rows inputs_whole.fine

  inputs_known : p.inputs.defined ≡ map variable F.inputs
  unfolding input_rule
  inputs_known = inputs_whole.known ∙ ap (news (input_rule h.largest)) input_lines.written
      ∙ news_items (input_rule h.largest) input_row (λ x. x) refl (λ x. refl) F.inputs

  latch_lines : LinesAre latch_row (λ l. l.own) (LatchLine h.largest) (map variable F.inputs) p.latches.rows F.latches
  latch_lines = latches_are h.largest (map variable F.inputs) p.latches.rows
      (subst (λ (d : List ℕ). AllFine (latch_rule h.largest) d p.latches.rows) inputs_known latches_whole.fine)

  latches_known : p.latches.defined ≡ of_inputs_and_latches F
  unfolding latch_rule
  latches_known =
      latches_whole.known
      ∙ ap₂ {C = List ℕ} (λ a b. a ++ b) inputs_known (ap (news (latch_rule h.largest)) latch_lines.written
      ∙ news_items (latch_rule h.largest) latch_row (λ l. l.own) refl (λ x. refl) F.latches)

  output_known : p.output.defined ≡ of_inputs_and_latches F
  output_known =
      output_whole.known
      ∙ ap₂ {C = List ℕ} (λ a b. a ++ b) latches_known (output_news h.largest p.output.rows)
      ∙ append-nil (of_inputs_and_latches F)

  output_line : (p.output.rows ≡ (F.output ∷ []) ∷ []) × (F.output ≤ 2 * h.largest + 1)
  output_line = output_is h.largest p.latches.defined p.output.rows output_whole.count output_whole.fine

  gate_lines_lem : LinesAre gate_row (λ g. g.own) (GateLine h.largest) (of_inputs_and_latches F) p.gates.rows F.gates
  gate_lines_lem = gates_are h.largest (of_inputs_and_latches F) p.gates.rows
      (subst (λ (d : List ℕ). AllFine (gate_rule h.largest) d p.gates.rows) output_known gates_whole.fine)

  gates_known : p.gates.defined ≡ defined_in F
  unfolding gate_rule
  gates_known =
      gates_whole.known
      ∙ ap₂ {C = List ℕ} (λ a b. a ++ b) output_known (ap (news (gate_rule h.largest)) gate_lines_lem.written
      ∙ news_items (gate_rule h.largest) gate_row (λ g. g.own) refl (λ x. refl) F.gates)

  header_same : h.outputs ≡ 1 → h ≡ header_for F
  header_same one =
      λ x.
      record {
        largest = h.largest;
        inputs = sym (length-map p.inputs.rows (λ (fs : List ℕ). get_or fs 0 0) ∙ inputs_whole.count) x;
        latches = sym (length-map p.latches.rows latch_of ∙ latches_whole.count) x;
        outputs = one x;
        gates = sym (length-map p.gates.rows gate_of ∙ gates_whole.count) x;
      }

  symbols_are : SymbolsAre h [] p.gates.rest p.behind
  symbols_are = symbol_lines_are h (3 + h.inputs + h.latches + h.gates) [] p.gates.rest p.behind p.symbols_taken

  behind_text_lem : flat_map (λ l. l) p.gates.rest ≡ behind_text F
  behind_text_lem = symbols_are.text ∙ ap {B = List ℕ} (λ ss. flat_map symbol_line ss ++ comment_text p.behind.comment) (sym symbols_are.all)

  symbols_right : h.outputs ≡ 1 → All (SymbolLine F) F.symbols × Fresh Apart [] F.symbols
  symbols_right one =
      good_symbols F [] F.symbols
      (subst (λ (g : Header). AllGood g [] F.symbols) (header_same one) (subst (AllGood h []) (sym symbols_are.all) symbols_are.good))

  body_text : flat_map (λ l. l) rest ≡ flat_map number_line (map input_row F.inputs)
      ++ (flat_map number_line (map latch_row F.latches) ++ (number_line (F.output ∷ []) ++ (flat_map number_line (map gate_row F.gates) ++ behind_text F)))
  unfolding flat_map
  body_text =
      section_text p.inputs.rows is rest p.inputs.rest inputs_whole.lines input_lines.written
      ∙ ap {B = List ℕ} (λ t. flat_map number_line is ++ t) (section_text p.latches.rows ls p.inputs.rest p.latches.rest
      latches_whole.lines latch_lines.written)
      ∙ ap {B = List ℕ} (λ t. flat_map number_line is ++ (flat_map number_line ls ++ t))
      (section_text p.output.rows ((F.output ∷ []) ∷ []) p.latches.rest p.output.rest output_whole.lines output_line.0
      ∙ append_assoc (number_line (F.output ∷ [])) [] (flat_map (λ l. l) p.output.rest))
      ∙ ap {B = List ℕ} (λ t. flat_map number_line is ++ (flat_map number_line ls ++ (number_line (F.output ∷ []) ++ t)))
      (section_text p.gates.rows gs p.output.rest p.gates.rest gates_whole.lines gate_lines_lem.written
      ∙ ap {B = List ℕ} (λ t. flat_map number_line gs ++ t) behind_text_lem)
    where
      is : List (List ℕ)
      is = map input_row F.inputs

      ls : List (List ℕ)
      ls = map latch_row F.latches

      gs : List (List ℕ)
      gs = map gate_row F.gates

  -- what latches, output and gates use
  abbrev used_latches : List (List ℕ)
  used_latches = map (used_by a_latch) p.latches.rows

  abbrev used_output : List (List ℕ)
  used_output = map (used_by the_output) p.output.rows

  abbrev used_gates : List (List ℕ)
  used_gates = map (used_by a_gate) p.gates.rows

  abbrev AllKnown : List ℕ → Type 0
  AllKnown ls = All (Known (defined_in F)) ls

  late_known : All AllKnown (late_of p.latches p.output p.gates)
  late_known = subst (λ (d : List ℕ). All (All (Known d)) (late_of p.latches p.output p.gates)) gates_known
      (known-used p.gates.defined (2 + h.inputs) (late_of p.latches p.output p.gates) tt p.late_taken)

  nexts_known : All (λ (l : Latch). Known (defined_in F) l.next) F.latches
  unfolding latch_of
  nexts_known =
      all_map (λ (l : Latch). Known (defined_in F) l.next) latch_of p.latches.rows
      (all_weaker (λ (fs : List ℕ). AllKnown (used_by a_latch fs)) (λ (fs : List ℕ). Known (defined_in F) (get_or fs 1 0)) (λ fs a. a.0) p.latches.rows
      (map_all AllKnown (used_by a_latch) p.latches.rows (all_left AllKnown used_latches (used_output ++ used_gates) late_known)))

  behind_latches_lem : All AllKnown (used_output ++ used_gates)
  behind_latches_lem = all_right AllKnown used_latches (used_output ++ used_gates) late_known

  output_is-known : Known (defined_in F) F.output
  output_is-known =
      (subst (λ (rows : List (List ℕ)). All AllKnown (map (used_by the_output) rows)) output_line.0
      (all_left AllKnown used_output used_gates behind_latches_lem)).0.0

  operands_known : All (λ (g : Gate). Known (defined_in F) g.left × Known (defined_in F) g.right) F.gates
  unfolding gate_of
  operands_known =
      all_map (λ (g : Gate). Known (defined_in F) g.left × Known (defined_in F) g.right) gate_of p.gates.rows
      (all_weaker (λ (fs : List ℕ). AllKnown (used_by a_gate fs)) (λ (fs : List ℕ). Known (defined_in F) (get_or fs 1 0) × Known (defined_in F) (get_or fs 2 0))
      (λ fs a. (a.0, a.1.0)) p.gates.rows
      (map_all AllKnown (used_by a_gate) p.gates.rows (all_right AllKnown used_output used_gates behind_latches_lem)))

  no_circle_lem : (i : ℕ) → ReachesItself F.gates i → ⊥
  no_circle_lem = circled_none F.gates (3 + h.inputs + h.latches) tt p.circle_taken

  once : Pairs (λ v u. v ≢ u) (defined_in F)
  once =
      fresh_pairs (λ v u. v ≢ u) (of_inputs_and_latches F) (map (λ (g : Gate). variable g.own) F.gates)
      (fresh_pairs (λ v u. v ≢ u) (map variable F.inputs) (map (λ (l : Latch). variable l.own) F.latches)
      (fresh_pairs (λ v u. v ≢ u) [] (map variable F.inputs) tt input_lines.fresh)
      latch_lines.fresh)
      gate_lines_lem.fresh

module _ (limits : Limits) (bytes : List ℕ) (f : TextFile) (one : limits.outputs ≡ 1) (small : 2 * limits.variable + 1 < 10 ^ 7) where
  -- each part of reading a file was taken, so the file is its text
  assembled : (h : Header) (p : Parts h (drop 1 (lines bytes)) f) → length bytes ≤ limits.file → Headed bytes h → Within limits h
      → (bytes ≡ text_of (F h (drop 1 (lines bytes)) f p)) × WellFormed limits (F h (drop 1 (lines bytes)) f p)
  assembled h p long first w = (same, form)
    where
      rest : List (List ℕ)
      rest = drop 1 (lines bytes)

      G : TextFile
      G = F h rest f p

      h_one : h.outputs ≡ 1
      h_one = w.outputs ∙ one

      header : h ≡ header_for G
      header = header_same h rest f p h_one

      behind : first.rest ≡ flat_map (λ l. l) rest
      behind = sym (flat-lines first.rest) ∙ ap (λ (ls : List (List ℕ)). flat_map (λ l. l) (drop 1 ls)) (sym (headed_lines bytes h first))

      same : bytes ≡ text_of G
      same =
          first.text
          ∙ ap₂ {C = List ℕ} (λ a b. a ++ b) (ap (λ (k : Header). word ++ number_line (row_of k)) header) (behind ∙ body_text h rest f p)
          ∙ sym (text_by_rows G)

      within : Within limits (header_for G)
      within = subst (Within limits) header w

      form : WellFormed limits G
      form =
          record {
            file = subst (λ (t : List ℕ). length t ≤ limits.file) same long;
            largest = within.largest;
            input_count = within.inputs;
            latch_count = within.latches;
            digits = omega (arith, within.largest, small);
            room = within.room;
            inputs = (input_lines h rest f p).each;
            latches = (latch_lines h rest f p).each;
            output = (output_line h rest f p).1;
            gates = (gate_lines_lem h rest f p).each;
            once = once h rest f p;
            operands = operands_known h rest f p;
            no_circle = no_circle_lem h rest f p;
            nexts = nexts_known h rest f p;
            error = output_is-known h rest f p;
            symbols = (symbols_right h rest f p h_one).0;
            apart = fresh_pairs Apart [] G.symbols tt (symbols_right h rest f p h_one).1;
          }

  pub sound : file_read limits bytes ≡ taken f → (bytes ≡ text_of f) × WellFormed limits f
  unfolding file_read
  sound e =
      let (u, a, e1) = then_taken _ _ f e in
      let (h, b, e2) = bind_taken _ _ f e1 in
      let (v, c, e3) = then_taken _ _ f e2 in
      let p : Parts h (drop 1 (lines bytes)) f = parts h (drop 1 (lines bytes)) f e3 in
      subst (λ (g : TextFile). (bytes ≡ text_of g) × WellFormed limits g) p.whole
      (assembled h p (ltb-false limits.file (length bytes) (refuse_none _ file_too_long 0 u a)) (header_taken bytes h b)
      (within_is limits h (not-false _ (refuse_none _ header_limit 1 v c))))
