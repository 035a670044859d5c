-- The lines behind the header as one run of lines: inputs, latches, the output, gates. Assumes nothing.
use Prim.Native.Nat.{ℕ, suc, ◌+◌, ◌<◌}
use native.Mathlib.Omega.{arith}
use mathlib.Core.List.{List, ◌++◌, append_assoc}
use mathlib.Core.Path.{◌≡◌, refl, sym, ap, ◌∙◌}
use lib.ListN.{length, take, drop}
use lib.Seq.{take_at, drop_at, drop-drop, take_all}
use borrow.Author.Tests.{lt-ltb, le-ltb, eq-eqb, ne_eqb}
use Rattle.circuit.specs.Outcome.{Outcome, taken, ◌>>=◌}
use Rattle.lines.specs.Inner.Kinds.{kind_at}
use Rattle.reader.specs.Inner.AllLines.{rule_at, line_count, lined}
use Rattle.reader.proofs.Laws.Lined.{joined, stage}
use Rattle.text.specs.Header.{Header}
use Rattle.text.specs.Read.{lines_read}
use Rattle.text.specs.Rules.{Rule, input_rule, latch_rule, output_rule, gate_rule}
use Rattle.text.specs.Section.{Body, section, onward}
use Rattle.text.specs.Stages.{unread, input_section, latch_section, output_section, gate_section}
use Rattle.text.specs.TextFile.{TextFile}
use Rattle.text.proofs.Laws.Section.{section-whole}
use Rattle.text.proofs.Laws.Stages.{behind_gates, behind_output, behind_latches, behind_inputs}

-- so many rows from a start on
abbrev pub part_of : (start n : ℕ) → Body → Body
part_of start n b = record { rows = take n (drop start b.rows); defined = b.defined; rest = b.rest }

-- what is still to be read behind the gates
abbrev pub finished : Header → Body → Outcome TextFile
finished h b =
    behind_gates h (part_of 0 h.inputs b) (part_of h.inputs h.latches b) (part_of (h.inputs + h.latches) 1 b)
    (part_of (h.inputs + h.latches + 1) h.gates b)

module _ (h : Header) where
  -- the kind of each line
  pub input_rules : (j : ℕ) → j < h.inputs → rule_at h (0 + j) ≡ input_rule h.largest
  unfolding kind_at
  input_rules j l = rw (lt-ltb (0 + j) h.inputs (omega arith))

  pub latch_rules : (j : ℕ) → j < h.latches → rule_at h (h.inputs + j) ≡ latch_rule h.largest
  unfolding kind_at
  latch_rules j l = rw (le-ltb (h.inputs + j) h.inputs (omega arith), lt-ltb (h.inputs + j) (h.inputs + h.latches) (omega arith))

  pub output_rules : (j : ℕ) → j < 1 → rule_at h (h.inputs + h.latches + j) ≡ output_rule h.largest
  unfolding kind_at
  output_rules j l =
      let i = h.inputs + h.latches in
      rw (le-ltb (i + j) h.inputs (omega arith), le-ltb (i + j) i (omega arith), eq-eqb (i + j) i (omega arith))

  pub gate_rules : (j : ℕ) → j < h.gates → rule_at h (h.inputs + h.latches + 1 + j) ≡ gate_rule h.largest
  unfolding kind_at
  gate_rules j l =
      let i = h.inputs + h.latches in
      rw (le-ltb (i + 1 + j) h.inputs (omega arith), le-ltb (i + 1 + j) i (omega arith), ne_eqb (i + 1 + j) i (λ e. omega arith))

  -- the rows of each section among all rows
  module _ (is ls os gs : List (List ℕ)) (i : length is ≡ h.inputs) (l : length ls ≡ h.latches) (o : length os ≡ 1) (g : length gs ≡ h.gates) where
    abbrev all : List (List ℕ)
    all = ((is ++ ls) ++ os) ++ gs

    in_turn_lem : all ≡ is ++ (ls ++ (os ++ gs))
    in_turn_lem = append_assoc (is ++ ls) os gs ∙ append_assoc is ls (os ++ gs)

    behind_inputs_lem : drop h.inputs all ≡ ls ++ (os ++ gs)
    behind_inputs_lem = ap (drop h.inputs) in_turn_lem ∙ drop_at is (ls ++ (os ++ gs)) h.inputs i

    behind_latches_lem : drop (h.inputs + h.latches) all ≡ os ++ gs
    behind_latches_lem = sym (drop-drop h.latches h.inputs all) ∙ ap (drop h.latches) behind_inputs_lem ∙ drop_at ls (os ++ gs) h.latches l

    behind_output_lem : drop (h.inputs + h.latches + 1) all ≡ gs
    behind_output_lem = sym (drop-drop 1 (h.inputs + h.latches) all) ∙ ap (drop 1) behind_latches_lem ∙ drop_at os gs 1 o

    input_part : take h.inputs (drop 0 all) ≡ is
    input_part = ap (take h.inputs) in_turn_lem ∙ take_at is (ls ++ (os ++ gs)) h.inputs i

    latch_part : take h.latches (drop h.inputs all) ≡ ls
    latch_part = ap (take h.latches) behind_inputs_lem ∙ take_at ls (os ++ gs) h.latches l

    output_part : take 1 (drop (h.inputs + h.latches) all) ≡ os
    output_part = ap (take 1) behind_latches_lem ∙ take_at os gs 1 o

    gate_part : take h.gates (drop (h.inputs + h.latches + 1) all) ≡ gs
    gate_part = ap (take h.gates) behind_output_lem ∙ take_all h.gates gs (omega (arith, g))

  module _ (rest : List (List ℕ)) where
    abbrev R : ℕ → Rule
    R = rule_at h

    gates_end : (i l o g : Body) → length i.rows ≡ h.inputs → length l.rows ≡ h.latches → length o.rows ≡ 1 → length g.rows ≡ h.gates
        → behind_gates h i l o g ≡ finished h (joined (joined (joined (joined (unread rest) i) l) o) g)
    unfolding joined
    gates_end i l o g a b c d =
        sym
        (λ x.
        behind_gates h (record { rows = input_part i.rows l.rows o.rows g.rows a b c d x; defined = g.defined; rest = g.rest })
        (record { rows = latch_part i.rows l.rows o.rows g.rows a b c d x; defined = g.defined; rest = g.rest })
        (record { rows = output_part i.rows l.rows o.rows g.rows a b c d x; defined = g.defined; rest = g.rest })
        (record { rows = gate_part i.rows l.rows o.rows g.rows a b c d x; defined = g.defined; rest = g.rest }))

    -- a section has as many rows as lines
    long : (r : Rule) (c n place : ℕ) (b after : Body) → r.count ≡ suc c → section r n place (onward b) ≡ taken after → length after.rows ≡ n
    unfolding onward
    long r c n place b after e s = (section-whole r c n place b.defined b.rest after e s).count

    pub lines-by_rows : lines_read h rest ≡ (lined R 0 (line_count h) (unread rest) >>= finished h)
    unfolding lines_read lined onward joined input_rule latch_rule output_rule gate_rule
    lines-by_rows =
        stage R (input_rule h.largest) 0 h.inputs (h.latches + (1 + (h.gates + 0))) 2 (unread rest) (behind_inputs h) (finished h) refl input_rules
        inputs_taken
        ∙ ap (λ (n : ℕ). lined R 0 n (unread rest) >>= finished h) total
      where
        total : h.inputs + (h.latches + (1 + (h.gates + 0))) ≡ line_count h
        total = omega arith

        from_none : h.inputs ≡ 0 + h.inputs
        from_none = omega arith

        gates_taken : (i l o : Body) → length i.rows ≡ h.inputs → length l.rows ≡ h.latches → length o.rows ≡ 1 → (g : Body)
            → gate_section h o ≡ taken g
            → behind_gates h i l o g ≡ (lined R (h.inputs + h.latches + 1 + h.gates) 0 (joined (joined (joined (joined (unread rest) i) l) o) g) >>=
            finished h)
        gates_taken i l o a b c g t = gates_end i l o g a b c (long (gate_rule h.largest) 2 h.gates (3 + h.inputs + h.latches) o g refl t)

        output_taken : (i l : Body) → length i.rows ≡ h.inputs → length l.rows ≡ h.latches → (o : Body) → output_section h l ≡ taken o
            → behind_output h i l o ≡ (lined R (h.inputs + h.latches + 1) (h.gates + 0) (joined (joined (joined (unread rest) i) l) o) >>= finished h)
        output_taken i l a b o t =
            stage R (gate_rule h.largest) (h.inputs + h.latches + 1) h.gates 0 (3 + h.inputs + h.latches)
            (joined (joined (joined (unread rest) i) l) o) (behind_gates h i l o) (finished h) (omega arith) gate_rules
            (gates_taken i l o a b (long (output_rule h.largest) 0 1 (2 + h.inputs + h.latches) l o refl t))

        latches_taken : (i : Body) → length i.rows ≡ h.inputs → (l : Body) → latch_section h i ≡ taken l
            → behind_latches h i l ≡ (lined R (h.inputs + h.latches) (1 + (h.gates + 0)) (joined (joined (unread rest) i) l) >>= finished h)
        latches_taken i a l t =
            stage R (output_rule h.largest) (h.inputs + h.latches) 1 (h.gates + 0) (2 + h.inputs + h.latches) (joined (joined (unread rest) i) l)
            (behind_output h i l) (finished h) (omega arith) output_rules
            (output_taken i l a (long (latch_rule h.largest) 1 h.latches (2 + h.inputs) i l refl t))

        inputs_taken : (i : Body) → input_section h rest ≡ taken i → behind_inputs h
            i ≡ (lined R (0 + h.inputs) (h.latches + (1 + (h.gates + 0))) (joined (unread rest) i) >>= finished h)
        inputs_taken i t =
            stage R (latch_rule h.largest) h.inputs h.latches (1 + (h.gates + 0)) (2 + h.inputs) (joined (unread rest) i) (behind_latches h i)
            (finished h) refl latch_rules
            (latches_taken i (long (input_rule h.largest) 0 h.inputs 2 (unread rest) i refl t))
            ∙ ap (λ (q : ℕ). lined R q (h.latches + (1 + (h.gates + 0))) (joined (unread rest) i) >>= finished h) from_none
