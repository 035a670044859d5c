-- All that stands behind the header, in the order of the numbers: lines, the late 7, 16, symbols, 9. Assumes nothing.
use Prim.Native.Nat.{ℕ, ◌+◌}
use native.Mathlib.Omega.{arith}
use mathlib.Core.Bool.{Bool, true, false}
use mathlib.Core.List.{List, []}
use mathlib.Core.Path.{◌≡◌, refl, sym, ap, ◌∙◌}
use lib.ListN.{take, drop}
use Rattle.std.specs.Prelude.{Result, Ok, Err}
use Rattle.below.specs.Table.{table}
use Rattle.circuit.specs.Answer.{outcome_of, ReadAs}
use Rattle.circuit.specs.Circuit.{Circuit, too_many}
use Rattle.circuit.specs.Fault.{number_of}
use Rattle.circuit.specs.Limits.{base}
use Rattle.circuit.specs.Outcome.{Outcome, taken, refused, ◌>>=◌, ◌>>◌, refuse_if}
use Rattle.circuit.specs.Stored.{meant}
use Rattle.circuit.specs.declared.Circuit.{Circuit as Value}
use Rattle.circuit.specs.declared.numbers.Fault.TheVariants.{TooManyInputs}
use Rattle.circuit.specs.declared.numbers.Refusal.{Refusal}
use Rattle.reader.specs.Inner.AllLines.{rule_at, line_count, lined}
use Rattle.reader.specs.Inner.BodyAs.{BodyAt}
use Rattle.reader.specs.Inner.CountedAs.{counted_as}
use Rattle.reader.specs.Inner.DefinedAs.{DefinedAs}
use Rattle.reader.specs.Inner.Few.{Few}
use Rattle.reader.specs.Inner.LinesAs.{circuit_of_lines}
use Rattle.reader.specs.Inner.OrderedAs.{AllPlaced, InOrder}
use Rattle.reader.specs.Inner.Rows.{late_at, row_gates, rows_file}
use Rattle.reader.specs.Inner.SymbolsAs.{SymbolsRead}
use Rattle.reader.specs.Inner.ValueOf.{value_of}
use Rattle.reader.specs.declared.body.Body.{Body as Value-of_lines}
use Rattle.reader.proofs.Laws.GatesPlaced.{circled_none, placed_ordered}
use Rattle.reader.proofs.Laws.RowsFile.{finished_rows}
use Rattle.reader.proofs.Laws.Sections.{finished, lines-by_rows}
use Rattle.reader.proofs.Laws.ValueStored.{value_stored, too_many_same}
use Rattle.text.specs.Header.{Header}
use Rattle.text.specs.Line.{lines}
use Rattle.text.specs.Numbers.{too_many_inputs}
use Rattle.text.specs.Read.{lines_read}
use Rattle.text.specs.Section.{Body, used}
use Rattle.text.specs.Stages.{unread, circled}
use Rattle.text.specs.Symbol.{symbol_lines}
use Rattle.text.specs.TextFile.{TextFile, circuit_of}

-- what a reader answers, from the outcome
pub refused_as : (o : Outcome Circuit) (x : Refusal) (r : Result Value Refusal) → o ≡ refused (number_of x.fault) x.place → r ≡ Err x → ReadAs o r
unfolding outcome_of
refused_as o x r e f = rw (e, f)

-- what is returned behind a `?`
pub exit-is : (x : Refusal) (r : Result Value Refusal) → ((y : Refusal) × (r ≡ Err y) × (y ≡ x)) → r ≡ Err x
exit-is x r (y, e, f) = e ∙ ap {B = Result Value Refusal} Err f

module _ (h : Header) (bytes : List ℕ) where
  abbrev outcome : Outcome Circuit
  outcome = circuit_of_lines (lines_read h (lines bytes))

  pub body_refused : (x : Refusal) (r : Result Value Refusal) → lined (rule_at h) 0 (line_count h) (unread (lines bytes)) ≡ refused (number_of x.fault) x.place
      → r ≡ Err x → ReadAs outcome r
  unfolding circuit_of_lines
  body_refused x r e = refused_as outcome x r (ap circuit_of_lines (lines-by_rows h (lines bytes) ∙ ap (λ (o : Outcome Body). o >>= finished h) e))

  -- behind the lines before the symbols
  module _ (b : Value-of_lines) (w : BodyAt h bytes b) where
    abbrev literals : List (List ℕ)
    literals = table (late_at h b.rows) (h.latches + 1 + h.gates)

    abbrev symbols_left : Outcome TextFile
    symbols_left = symbol_lines h (2 + line_count h) [] (lines (drop b.behind bytes)) >>= λ s. taken (rows_file h b.rows s)

    so_far : lines_read h (lines bytes)
        ≡ (used w.defined (2 + h.inputs) literals >> (circled (3 + h.inputs + h.latches) (row_gates h b.rows) >> symbols_left))
    so_far = lines-by_rows h (lines bytes) ∙ ap (λ (o : Outcome Body). o >>= finished h) w.whole
        ∙ finished_rows h b.rows w.defined (lines (drop b.behind bytes))
        ∙ ap (λ (p : ℕ). used w.defined (2 + h.inputs) literals >> (circled (3 + h.inputs + h.latches) (row_gates h b.rows) >>
        (symbol_lines h p [] (lines (drop b.behind bytes)) >>= λ s. taken (rows_file h b.rows s)))) place
      where
        place : 3 + h.inputs + h.latches + h.gates ≡ 2 + line_count h
        place = omega arith

    pub late_refused : (x : Refusal) (r : Result Value Refusal) → DefinedAs h b.defined b.rows (Err x) → r ≡ Err x → ReadAs outcome r
    unfolding circuit_of_lines outcome_of
    late_refused x r d =
        let told : lines_read h (lines bytes) ≡ refused (number_of x.fault) x.place = so_far ∙ rw (sym (d w.defined w.says)) in
        refused_as outcome x r (ap circuit_of_lines told)

    -- behind what they use
    module _ (u : Unit {0}) (d : DefinedAs h b.defined b.rows (Ok u)) where
      known : lines_read h (lines bytes) ≡ (circled (3 + h.inputs + h.latches) (row_gates h b.rows) >> symbols_left)
      unfolding outcome_of
      known = so_far ∙ rw (sym (d w.defined w.says))

      pub circle_refused : (x : Refusal) (r : Result Value Refusal) → circled (3 + h.inputs + h.latches) (row_gates h b.rows)
          ≡ refused (number_of x.fault) x.place
          → r ≡ Err x → ReadAs outcome r
      unfolding circuit_of_lines
      circle_refused x r e =
          let told : lines_read h (lines bytes) ≡ refused (number_of x.fault) x.place = known ∙ rw e in
          refused_as outcome x r (ap circuit_of_lines told)

      -- behind the gates' order
      module _ (few : Few h) (order : List ℕ) (p : AllPlaced h b.rows order) where
        placed : lines_read h (lines bytes) ≡ symbols_left
        placed = known ∙ rw (circled_none h b.rows (3 + h.inputs + h.latches) p.none)

        pub symbol_refused : (x : Refusal) (r : Result Value Refusal)
            → symbol_lines h (2 + line_count h) [] (lines (drop b.behind bytes)) ≡ refused (number_of x.fault) x.place → r ≡ Err x → ReadAs outcome r
        unfolding circuit_of_lines
        symbol_refused x r e =
            let told : lines_read h (lines bytes) ≡ refused (number_of x.fault) x.place = placed ∙ rw e in
            refused_as outcome x r (ap circuit_of_lines told)

        -- number 9, or the circuit
        pub counted_read : (flags : List ℕ) → SymbolsRead h bytes b.behind flags → (v : Value) → v ≡ value_of h b.rows (take h.gates order) flags
            → (r : Result Value Refusal) → r ≡ counted_as v → ReadAs outcome r
        unfolding circuit_of_lines refuse_if counted_as outcome_of
        counted_read flags s v is r e = by (too_many base (circuit_of file)) refl
          where
            file : TextFile
            file = rows_file h b.rows s.behind

            whole : lines_read h (lines bytes) ≡ taken file
            whole = placed ∙ rw s.whole

            all : InOrder (take h.gates order) h.gates
            all = placed_ordered h b.rows order p

            same : too_many base (meant v) ≡ too_many base (circuit_of file)
            same = ap (λ (u : Value). too_many base (meant u)) is
                ∙ too_many_same h b.rows (take h.gates order) flags s.behind few s.flagged p.placed all

            by : (t : Bool) → too_many base (circuit_of file) ≡ t → ReadAs outcome r
            by true q =
                let told : outcome ≡ refused too_many_inputs 0 = rw (whole, q) in
                refused_as outcome (record { fault = TooManyInputs; place = 0 }) r told (e ∙ rw (same ∙ q))
            by false q =
                let told : outcome ≡ taken (circuit_of file) = rw (whole, q) in
                rw (e, same, q, told, is) (ap taken (value_stored h b.rows (take h.gates order) flags s.behind few s.flagged p.placed all))
