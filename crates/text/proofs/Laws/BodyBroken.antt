-- The lines behind the header are refused exactly at the first fault in the order of document 01 ("The numbers": lines in file order; 02, T-01:
-- then 7 for what they use; then 16; then symbol lines): everything before that fault is right. Assumes nothing.
use Prim.Native.Nat.{ℕ, ◌+◌, ◌≤◌}
use native.Mathlib.Omega.{arith}
use mathlib.Core.List.{List, [], ◌∷◌, ◌++◌, map, append_assoc}
use mathlib.Core.Logic.{◌⊎◌, inl, inr}
use mathlib.Core.Path.{◌≡◌, refl, sym, ap, ◌∙◌, subst}
use lib.ListN.{length, drop, replicate, length-append, length-replicate}
use lib.Seq.{drop-drop, drop_at}
use Rattle.circuit.specs.Outcome.{Outcome, taken, refused}
use Rattle.text.specs.BodyBroken.{gates_on, WellUsed, BodyBroken, in_lines, in_use, in_circle, in_symbols}
use Rattle.text.specs.Circle.{Circle}
use Rattle.text.specs.FirstFault.{AllRight, FirstFault}
use Rattle.text.specs.Header.{Header}
use Rattle.text.specs.InList.{All}
use Rattle.text.specs.Kind.{Kind, an_input, a_latch, the_output, a_gate, kinds, defined_by_all, used_by, used_by_all, gate_of}
use Rattle.text.specs.NoSymbol.{NoSymbol}
use Rattle.text.specs.Numbers.{bad_symbol, gate_circle}
use Rattle.text.specs.Read.{lines_read}
use Rattle.text.specs.Section.{Body, onward, used}
use Rattle.text.specs.Stages.{input_section, latch_section, output_section, gate_section, late_of, late_stage, circle_stage, symbol_stage, circled}
use Rattle.text.specs.Unknown.{Unknown}
use Rattle.text.specs.WellFormed.{Known}
use Rattle.text.proofs.Laws.Circle.{circled_none, none_circled, circled_circle, circle_circled}
use Rattle.text.proofs.Laws.FirstFault.{
  body,
  section-first,
  first-section,
  section_right,
  right_section,
  right_length,
  first_front,
  first-behind,
  Where,
  front,
  behind,
  where_first,
  right_join,
  Split,
  right_split,
  defined_join,
  first_range,
}
use Rattle.text.proofs.Laws.NoSymbol.{symbols_broken, broken_symbols}
use Rattle.text.proofs.Laws.Outcome.{taken_is-not_refused, bind_refused, then_refused}
use Rattle.text.proofs.Laws.Stages.{file_of, behind_circle, behind_late, behind_gates, behind_output, behind_latches, behind_inputs}
use Rattle.text.proofs.Laws.Used.{used-known, known-used, used-unknown, unknown-used, used-section, used-join, used_inputs}

module _ (h : Header) (rest : List (List ℕ)) where
  -- the kinds behind the output, the latches and the inputs
  abbrev gate_kinds : List Kind
  gate_kinds = replicate h.gates a_gate

  abbrev output_kinds : List Kind
  output_kinds = the_output ∷ gate_kinds

  abbrev latch_kinds : List Kind
  latch_kinds = replicate h.latches a_latch ++ output_kinds

  -- the lines behind each section
  abbrev rest_i : List (List ℕ)
  rest_i = drop h.inputs rest

  abbrev rest_l : List (List ℕ)
  rest_l = drop h.latches rest_i

  abbrev rest_o : List (List ℕ)
  rest_o = drop 1 rest_l

  abbrev rest_g : List (List ℕ)
  rest_g = drop h.gates rest_o

  -- the variables defined so far
  abbrev by_i : (ins : List (List ℕ)) → List ℕ
  by_i ins = defined_by_all (replicate h.inputs an_input) ins

  abbrev by_l : (ins lats : List (List ℕ)) → List ℕ
  by_l ins lats = by_i ins ++ defined_by_all (replicate h.latches a_latch) lats

  abbrev by_o : (ins lats outs : List (List ℕ)) → List ℕ
  by_o ins lats outs = by_l ins lats ++ defined_by_all (replicate 1 the_output) outs

  abbrev by_g : (ins lats outs gs : List (List ℕ)) → List ℕ
  by_g ins lats outs gs = by_o ins lats outs ++ defined_by_all gate_kinds gs

  -- the lines of each section are right
  abbrev RightI : (ins : List (List ℕ)) → Type 0
  RightI ins = AllRight h.largest (replicate h.inputs an_input) [] rest ins

  abbrev RightL : (ins lats : List (List ℕ)) → Type 0
  RightL ins lats = AllRight h.largest (replicate h.latches a_latch) (by_i ins) rest_i lats

  abbrev RightO : (ins lats outs : List (List ℕ)) → Type 0
  RightO ins lats outs = AllRight h.largest (replicate 1 the_output) (by_l ins lats) rest_l outs

  abbrev RightG : (ins lats outs gs : List (List ℕ)) → Type 0
  RightG ins lats outs gs = AllRight h.largest gate_kinds (by_o ins lats outs) rest_o gs

  -- what reading has come to behind each
  abbrev body_i : (ins : List (List ℕ)) → Body
  body_i ins = body ins (by_i ins) rest_i

  abbrev body_l : (ins lats : List (List ℕ)) → Body
  body_l ins lats = body lats (by_l ins lats) rest_l

  abbrev body_o : (ins lats outs : List (List ℕ)) → Body
  body_o ins lats outs = body outs (by_o ins lats outs) rest_o

  abbrev body_g : (ins lats outs gs : List (List ℕ)) → Body
  body_g ins lats outs gs = body gs (by_g ins lats outs gs) rest_g

  takes_inputs : (ins : List (List ℕ)) → RightI ins → input_section h rest ≡ taken (body_i ins)
  takes_inputs ins r = right_section h.largest an_input h.inputs 2 [] ins [] rest r

  takes_latches : (ins lats : List (List ℕ)) → RightL ins lats → latch_section h (body_i ins) ≡ taken (body_l ins lats)
  unfolding onward
  takes_latches ins lats r = right_section h.largest a_latch h.latches (2 + h.inputs) [] lats (by_i ins) rest_i r

  takes_output : (ins lats outs : List (List ℕ)) → RightO ins lats outs → output_section h (body_l ins lats) ≡ taken (body_o ins lats outs)
  unfolding onward
  takes_output ins lats outs r = right_section h.largest the_output 1 (2 + h.inputs + h.latches) [] outs (by_l ins lats) rest_l r

  takes_gates : (ins lats outs gs : List (List ℕ)) → RightG ins lats outs gs → gate_section h (body_o ins lats outs) ≡ taken (body_g ins lats outs gs)
  unfolding onward
  takes_gates ins lats outs gs r = right_section h.largest a_gate h.gates (3 + h.inputs + h.latches) [] gs (by_o ins lats outs) rest_o r

  -- all lines are right: the four sections
  record Sections (rows : List (List ℕ)) : Type 0 where
    ins : List (List ℕ)
    lats : List (List ℕ)
    outs : List (List ℕ)
    gs : List (List ℕ)
    right_i : RightI ins
    right_l : RightL ins lats
    right_o : RightO ins lats outs
    right_g : RightG ins lats outs gs
    whole : rows ≡ ins ++ (lats ++ (outs ++ gs))

  sections : (rows : List (List ℕ)) → AllRight h.largest (kinds h) [] rest rows → Sections rows
  sections rows w =
      let a : Split h.largest an_input latch_kinds h.inputs [] rest rows = right_split h.largest an_input latch_kinds h.inputs [] rest rows w in
      let b : Split h.largest a_latch output_kinds h.latches (by_i a.rows) rest_i a.more =
      right_split h.largest a_latch output_kinds h.latches (by_i a.rows) rest_i a.more a.others in
      let d : Split h.largest the_output gate_kinds 1 (by_l a.rows b.rows) rest_l b.more =
      right_split h.largest the_output gate_kinds 1 (by_l a.rows b.rows) rest_l b.more b.others in
      record {
        ins = a.rows;
        lats = b.rows;
        outs = d.rows;
        gs = d.more;
        right_i = a.right;
        right_l = b.right;
        right_o = d.right;
        right_g = d.others;
        whole = a.whole ∙ ap {B = List (List ℕ)} (λ r. a.rows ++ r) (b.whole ∙ ap {B = List (List ℕ)} (λ r. b.rows ++ r) d.whole);
      }

  module _ (ins lats outs gs : List (List ℕ)) (r_i : RightI ins) (r_l : RightL ins lats) (r_o : RightO ins lats outs) (r_g : RightG ins lats outs gs) where
    abbrev all_rows : List (List ℕ)
    all_rows = ins ++ (lats ++ (outs ++ gs))

    all_right : AllRight h.largest (kinds h) [] rest all_rows
    all_right =
        right_join h.largest an_input latch_kinds h.inputs [] rest ins (lats ++ (outs ++ gs)) r_i
        (right_join h.largest a_latch output_kinds h.latches (by_i ins) rest_i lats (outs ++ gs) r_l
        (right_join h.largest the_output gate_kinds 1 (by_l ins lats) rest_l outs gs r_o r_g))

    known_all : defined_by_all (kinds h) all_rows ≡ by_g ins lats outs gs
    known_all =
        let d_l : List ℕ = defined_by_all (replicate h.latches a_latch) lats in
        let d_o : List ℕ = defined_by_all (replicate 1 the_output) outs in
        let d_g : List ℕ = defined_by_all gate_kinds gs in
        defined_join h.largest an_input latch_kinds h.inputs ins (lats ++ (outs ++ gs)) (right_length h.largest an_input h.inputs ins [] rest r_i)
        ∙ ap {B = List ℕ} (λ d. by_i ins ++ d)
        (defined_join h.largest a_latch output_kinds h.latches lats (outs ++ gs) (right_length h.largest a_latch h.latches lats (by_i ins) rest_i r_l)
        ∙ ap {B = List ℕ} (λ d. d_l ++ d) (defined_join h.largest the_output gate_kinds 1 outs gs
        (right_length h.largest the_output 1 outs (by_l ins lats) rest_l r_o)))
        ∙ sym (append_assoc (by_i ins) d_l (d_o ++ d_g))
        ∙ sym (append_assoc (by_l ins lats) d_o d_g)

    -- how many lines each section has
    inputs_long : length ins ≡ h.inputs
    inputs_long = right_length h.largest an_input h.inputs ins [] rest r_i

    latches_long : length lats ≡ h.latches
    latches_long = right_length h.largest a_latch h.latches lats (by_i ins) rest_i r_l

    output_long : length outs ≡ 1
    output_long = right_length h.largest the_output 1 outs (by_l ins lats) rest_l r_o

    gates_long : length gs ≡ h.gates
    gates_long = right_length h.largest a_gate h.gates gs (by_o ins lats outs) rest_o r_g

    abbrev late : List (List ℕ)
    late = late_of (body_l ins lats) (body_o ins lats outs) (body_g ins lats outs gs)

    used_all : used_by_all (kinds h) all_rows ≡ map (used_by an_input) ins ++ late
    used_all =
        used-join an_input latch_kinds h.inputs ins (lats ++ (outs ++ gs)) inputs_long
        ∙ ap {B = List (List ℕ)} (λ r. map (used_by an_input) ins ++ r)
        (used-join a_latch output_kinds h.latches lats (outs ++ gs) latches_long
        ∙ ap {B = List (List ℕ)} (λ r. map (used_by a_latch) lats ++ r)
        (used-join the_output gate_kinds 1 outs gs output_long
        ∙ ap {B = List (List ℕ)} (λ r. map (used_by the_output) outs ++ r) (used-section a_gate h.gates gs gates_long)))

    -- the late 7 goes over all that lines use
    late_all : late_stage h (body_l ins lats) (body_o ins lats outs) (body_g ins lats outs gs) ≡
        used (defined_by_all (kinds h) all_rows) 2 (used_by_all (kinds h) all_rows)
    late_all =
        ap (λ (d : List ℕ). used d (2 + h.inputs) late) (sym known_all)
        ∙ sym (used_inputs (defined_by_all (kinds h) all_rows) ins late h.inputs 2 inputs_long)
        ∙ ap (used (defined_by_all (kinds h) all_rows) 2) (sym used_all)

    gates_all : gates_on h all_rows ≡ map gate_of gs
    gates_all =
        let front : List (List ℕ) = ins ++ (lats ++ outs) in
        let long : length front ≡ h.inputs + h.latches + 1 =
        omega (arith, length-append ins (lats ++ outs), length-append lats outs, inputs_long, latches_long, output_long) in
        let whole : all_rows ≡ front ++ gs =
        ap {B = List (List ℕ)} (λ r. ins ++ r) (sym (append_assoc lats outs gs)) ∙ sym (append_assoc ins (lats ++ outs) gs) in
        ap (λ (r : List (List ℕ)). gates_on h r) whole ∙ ap (map gate_of) (drop_at front gs (h.inputs + h.latches + 1) long)

    circle_all : circle_stage h (body_g ins lats outs gs) ≡ circled (3 + h.inputs + h.latches) (gates_on h all_rows)
    circle_all = ap (circled (3 + h.inputs + h.latches)) (sym gates_all)

  rest_all : drop (length (kinds h)) rest ≡ rest_g
  rest_all =
      let n : length (kinds h) ≡ h.inputs + h.latches + 1 + h.gates =
      omega (
        arith,
        length-append (replicate h.inputs an_input) latch_kinds,
        length-append (replicate h.latches a_latch) output_kinds,
        length-replicate h.inputs an_input,
        length-replicate h.latches a_latch,
        length-replicate h.gates a_gate,
      )
      in
      ap (λ (m : ℕ). drop m rest) n
      ∙ sym (drop-drop h.gates (h.inputs + h.latches + 1) rest)
      ∙ ap (drop h.gates) (sym (drop-drop 1 (h.inputs + h.latches) rest) ∙ ap (drop 1) (sym (drop-drop h.latches h.inputs rest)))

  module _ (number place : ℕ) where
    -- a first fault, told from the first line of the body on
    from_latches : (ins : List (List ℕ)) → RightI ins → FirstFault h.largest latch_kinds (by_i ins) rest_i (2 + h.inputs) number place
        → FirstFault h.largest (kinds h) [] rest 2 number place
    from_latches ins r f = first-behind h.largest an_input latch_kinds number place h.inputs 2 [] rest ins (2 + h.inputs) (by_i ins) rest_i r refl
        refl refl f

    from_output : (ins lats : List (List ℕ)) → RightI ins → RightL ins lats
        → FirstFault h.largest output_kinds (by_l ins lats) rest_l (2 + h.inputs + h.latches) number place
        → FirstFault h.largest (kinds h) [] rest 2 number place
    from_output ins lats r s f =
        from_latches ins r (first-behind h.largest a_latch output_kinds number place h.latches (2 + h.inputs) (by_i ins) rest_i lats
        (2 + h.inputs + h.latches) (by_l ins lats) rest_l s refl refl refl f)

    from_gates : (ins lats outs : List (List ℕ)) → RightI ins → RightL ins lats → RightO ins lats outs
        → FirstFault h.largest gate_kinds (by_o ins lats outs) rest_o (3 + h.inputs + h.latches) number place
        → FirstFault h.largest (kinds h) [] rest 2 number place
    from_gates ins lats outs r s t f =
        from_output ins lats r s (first-behind h.largest the_output gate_kinds number place 1 (2 + h.inputs + h.latches) (by_l ins lats) rest_l outs
        (3 + h.inputs + h.latches) (by_o ins lats outs) rest_o t (omega arith) refl refl f)

    behind_gates_lem : (ins lats outs gs : List (List ℕ)) → RightI ins → RightL ins lats → RightO ins lats outs → RightG ins lats outs gs
        → behind_gates h (body_i ins) (body_l ins lats) (body_o ins lats outs) (body_g ins lats outs gs) ≡ refused number place → BodyBroken h rest number place
    behind_gates_lem ins lats outs gs r_i r_l r_o r_g e =
        elim (then_refused (late_stage h (body_l ins lats) (body_o ins lats outs) (body_g ins lats outs gs))
        (behind_late h (body_i ins) (body_l ins lats) (body_o ins lats outs) (body_g ins lats outs gs)) number place e) [
          | inl r ↦ in_use all right (used-unknown defined 2 used_there number place (sym (late_all ins lats outs gs r_i r_l r_o r_g) ∙ r))
          | inr u ↦ by (known-used defined 2 used_there tt (sym (late_all ins lats outs gs r_i r_l r_o r_g) ∙ u.1)) u.2
        ]
      where
        all : List (List ℕ)
        all = ins ++ (lats ++ (outs ++ gs))

        defined : List ℕ
        defined = defined_by_all (kinds h) all

        used_there : List (List ℕ)
        used_there = used_by_all (kinds h) all

        right : AllRight h.largest (kinds h) [] rest all
        right = all_right ins lats outs gs r_i r_l r_o r_g

        start : ℕ
        start = 3 + h.inputs + h.latches

        circle : circle_stage h (body_g ins lats outs gs) ≡ circled start (gates_on h all)
        circle = circle_all ins lats outs gs r_i r_l r_o r_g

        symbols : WellUsed h all → behind_circle h (body_i ins) (body_l ins lats) (body_o ins lats outs) (body_g ins lats outs gs) ≡ refused number place
            → BodyBroken h rest number place
        symbols w f =
            elim (bind_refused (symbol_stage h (body_g ins lats outs gs))
            (λ behind. taken (file_of h (body_i ins) (body_l ins lats) (body_o ins lats outs) (body_g ins lats outs gs) behind)) number place f) [
              | inl r ↦
                  in_symbols all right w
                  (subst (λ (ls : List (List ℕ)). NoSymbol h (3 + h.inputs + h.latches + h.gates) [] ls number place) (sym rest_all)
                  (symbols_broken h (3 + h.inputs + h.latches + h.gates) [] rest_g number place r))
              | inr s ↦ absurd (taken_is-not_refused number place (file_of h (body_i ins) (body_l ins lats) (body_o ins lats outs)
                  (body_g ins lats outs gs) s.0) s.2)
            ]

        by : All (All (Known defined)) used_there
            → behind_late h (body_i ins) (body_l ins lats) (body_o ins lats outs) (body_g ins lats outs gs) ≡ refused number place → BodyBroken h rest number
            place
        by known f =
            elim (then_refused (circle_stage h (body_g ins lats outs gs))
            (behind_circle h (body_i ins) (body_l ins lats) (body_o ins lats outs) (body_g ins lats outs gs)) number place f) [
              | inl r ↦ in_circle all right known (circled_circle (gates_on h all) start number place (sym circle ∙ r))
              | inr u ↦ symbols (record { known = known; no_circle = circled_none (gates_on h all) start tt (sym circle ∙ u.1) }) u.2
            ]

    behind_output_lem : (ins lats outs : List (List ℕ)) → RightI ins → RightL ins lats → RightO ins lats outs
        → behind_output h (body_i ins) (body_l ins lats) (body_o ins lats outs) ≡ refused number place → BodyBroken h rest number place
    unfolding onward
    behind_output_lem ins lats outs r_i r_l r_o e =
        elim (bind_refused (gate_section h (body_o ins lats outs)) (behind_gates h (body_i ins) (body_l ins lats) (body_o ins lats outs)) number place e) [
          | inl r ↦ in_lines (from_gates ins lats outs r_i r_l r_o (section-first h.largest a_gate h.gates (3 + h.inputs + h.latches) []
              (by_o ins lats outs) rest_o number place r))
          | inr d ↦
              let (gs, r_g, is) = section_right h.largest a_gate h.gates (3 + h.inputs + h.latches) [] (by_o ins lats outs) rest_o d.0 d.1 in
              behind_gates_lem ins lats outs gs r_i r_l r_o r_g
              (subst (λ (b : Body). behind_gates h (body_i ins) (body_l ins lats) (body_o ins lats outs) b ≡ refused number place) is d.2)
        ]

    behind_latches_lem : (ins lats : List (List ℕ)) → RightI ins → RightL ins lats → behind_latches h (body_i ins) (body_l ins lats) ≡ refused number place
        → BodyBroken h rest number place
    unfolding onward
    behind_latches_lem ins lats r_i r_l e =
        elim (bind_refused (output_section h (body_l ins lats)) (behind_output h (body_i ins) (body_l ins lats)) number place e) [
          | inl r ↦ in_lines (from_output ins lats r_i r_l (first_front h.largest the_output gate_kinds number place 1 (2 + h.inputs + h.latches)
              (by_l ins lats) rest_l (section-first h.largest the_output 1 (2 + h.inputs + h.latches) [] (by_l ins lats) rest_l number place r)))
          | inr c ↦
              let (outs, r_o, is) = section_right h.largest the_output 1 (2 + h.inputs + h.latches) [] (by_l ins lats) rest_l c.0 c.1 in
              behind_output_lem ins lats outs r_i r_l r_o (subst (λ (b : Body). behind_output h (body_i ins) (body_l ins lats) b ≡ refused number place) is c.2)
        ]

    behind_inputs_lem : (ins : List (List ℕ)) → RightI ins → behind_inputs h (body_i ins) ≡ refused number place → BodyBroken h rest number place
    unfolding onward
    behind_inputs_lem ins r_i e =
        elim (bind_refused (latch_section h (body_i ins)) (behind_latches h (body_i ins)) number place e) [
          | inl r ↦ in_lines (from_latches ins r_i (first_front h.largest a_latch output_kinds number place h.latches (2 + h.inputs) (by_i ins) rest_i
              (section-first h.largest a_latch h.latches (2 + h.inputs) [] (by_i ins) rest_i number place r)))
          | inr b ↦
              let (lats, r_l, is) = section_right h.largest a_latch h.latches (2 + h.inputs) [] (by_i ins) rest_i b.0 b.1 in
              behind_latches_lem ins lats r_i r_l (subst (λ (d : Body). behind_latches h (body_i ins) d ≡ refused number place) is b.2)
        ]

    pub lines_broken : lines_read h rest ≡ refused number place → BodyBroken h rest number place
    unfolding lines_read
    lines_broken e =
        elim (bind_refused (input_section h rest) (behind_inputs h) number place e) [
          | inl r ↦ in_lines (first_front h.largest an_input latch_kinds number place h.inputs 2 [] rest
              (section-first h.largest an_input h.inputs 2 [] [] rest number place r))
          | inr a ↦
              let (ins, r_i, is) = section_right h.largest an_input h.inputs 2 [] [] rest a.0 a.1 in
              behind_inputs_lem ins r_i (subst (λ (b : Body). behind_inputs h b ≡ refused number place) is a.2)
        ]

    -- and where one is, the lines are refused
    first_gates : (ins lats outs : List (List ℕ)) → RightI ins → RightL ins lats → RightO ins lats outs
        → FirstFault h.largest gate_kinds (by_o ins lats outs) rest_o (2 + h.inputs + h.latches + 1) number place → lines_read h rest ≡ refused number place
    unfolding lines_read onward
    first_gates ins lats outs r_i r_l r_o f =
        let here : 2 + h.inputs + h.latches + 1 ≡ 3 + h.inputs + h.latches = omega arith in
        let refuses : gate_section h (body_o ins lats outs) ≡ refused number place =
        first-section h.largest a_gate h.gates (3 + h.inputs + h.latches) [] (by_o ins lats outs) rest_o number place
        (subst (λ (q : ℕ). FirstFault h.largest gate_kinds (by_o ins lats outs) rest_o q number place) here f) in
        rw (takes_inputs ins r_i, takes_latches ins lats r_l, takes_output ins lats outs r_o, refuses)

    first_output : (ins lats : List (List ℕ)) → RightI ins → RightL ins lats
        → Where h.largest the_output gate_kinds number place 1 (2 + h.inputs + h.latches) (by_l ins lats) rest_l → lines_read h rest ≡ refused number place
    unfolding lines_read onward
    first_output ins lats r_i r_l (front f) =
        let refuses : output_section h (body_l ins lats) ≡ refused number place =
        first-section h.largest the_output 1 (2 + h.inputs + h.latches) [] (by_l ins lats) rest_l number place f in
        rw (takes_inputs ins r_i, takes_latches ins lats r_l, refuses)
    first_output ins lats r_i r_l (behind outs r_o f) = first_gates ins lats outs r_i r_l r_o f

    first_latches : (ins : List (List ℕ)) → RightI ins → Where h.largest a_latch output_kinds number place h.latches (2 + h.inputs) (by_i ins)
        rest_i → lines_read h rest ≡ refused number place
    unfolding lines_read onward
    first_latches ins r_i (front f) =
        let refuses : latch_section h (body_i ins) ≡ refused number place =
        first-section h.largest a_latch h.latches (2 + h.inputs) [] (by_i ins) rest_i number place f in
        rw (takes_inputs ins r_i, refuses)
    first_latches ins r_i (behind lats r_l f) = first_output ins lats r_i r_l
        (where_first h.largest the_output gate_kinds number place 1 (2 + h.inputs + h.latches) (by_l ins lats) rest_l f)

    first-lines : Where h.largest an_input latch_kinds number place h.inputs 2 [] rest → lines_read h rest ≡ refused number place
    unfolding lines_read
    first-lines (front f) =
        let refuses : input_section h rest ≡ refused number place = first-section h.largest an_input h.inputs 2 [] [] rest number place f in
        rw refuses
    first-lines (behind ins r_i f) =
        first_latches ins r_i (where_first h.largest a_latch output_kinds number place h.latches (2 + h.inputs) (by_i ins) rest_i f)

    module _ (ins lats outs gs : List (List ℕ)) (r_i : RightI ins) (r_l : RightL ins lats) (r_o : RightO ins lats outs) (r_g : RightG ins lats outs gs) where
      abbrev every : List (List ℕ)
      every = ins ++ (lats ++ (outs ++ gs))

      abbrev late_here : Outcome (Unit {0})
      late_here = late_stage h (body_l ins lats) (body_o ins lats outs) (body_g ins lats outs gs)

      use_refused : Unknown (defined_by_all (kinds h) every) 2 (used_by_all (kinds h) every) number place → lines_read h rest ≡ refused number place
      unfolding lines_read
      use_refused u =
          let refuses : late_here ≡ refused number place =
          late_all ins lats outs gs r_i r_l r_o r_g ∙ unknown-used (defined_by_all (kinds h) every) 2 (used_by_all (kinds h) every) number place u in
          rw (takes_inputs ins r_i, takes_latches ins lats r_l, takes_output ins lats outs r_o, takes_gates ins lats outs gs r_g, refuses)

      late_taken : All (All (Known (defined_by_all (kinds h) every))) (used_by_all (kinds h) every) → late_here ≡ taken tt
      late_taken k = late_all ins lats outs gs r_i r_l r_o r_g ∙ used-known (defined_by_all (kinds h) every) 2 (used_by_all (kinds h) every) k

      circle_refused : All (All (Known (defined_by_all (kinds h) every))) (used_by_all (kinds h) every)
          → Circle (3 + h.inputs + h.latches) (gates_on h every) number place → lines_read h rest ≡ refused number place
      unfolding lines_read
      circle_refused k c =
          let refuses : circle_stage h (body_g ins lats outs gs) ≡ refused number place =
          circle_all ins lats outs gs r_i r_l r_o r_g ∙ circle_circled (gates_on h every) (3 + h.inputs + h.latches) number place c in
          rw (takes_inputs ins r_i, takes_latches ins lats r_l, takes_output ins lats outs r_o, takes_gates ins lats outs gs r_g, late_taken k, refuses)

      symbols_refused : WellUsed h every → NoSymbol h (3 + h.inputs + h.latches + h.gates) [] (drop (length (kinds h)) rest) number place
          → lines_read h rest ≡ refused number place
      unfolding lines_read
      symbols_refused w n =
          let takes : circle_stage h (body_g ins lats outs gs) ≡ taken tt =
          circle_all ins lats outs gs r_i r_l r_o r_g ∙ none_circled (gates_on h every) (3 + h.inputs + h.latches) w.no_circle in
          let refuses : symbol_stage h (body_g ins lats outs gs) ≡ refused number place =
          broken_symbols h (3 + h.inputs + h.latches + h.gates) [] rest_g number place
          (subst (λ (ls : List (List ℕ)). NoSymbol h (3 + h.inputs + h.latches + h.gates) [] ls number place) rest_all n) in
          rw (
            takes_inputs ins r_i,
            takes_latches ins lats r_l,
            takes_output ins lats outs r_o,
            takes_gates ins lats outs gs r_g,
            late_taken w.known,
            takes,
            refuses,
          )

    pub broken_lines : BodyBroken h rest number place → lines_read h rest ≡ refused number place
    broken_lines (in_lines f) = first-lines (where_first h.largest an_input latch_kinds number place h.inputs 2 [] rest f)
    broken_lines (in_use rows w u) =
        let s : Sections rows = sections rows w in
        use_refused s.ins s.lats s.outs s.gs s.right_i s.right_l s.right_o s.right_g
        (subst (λ (r : List (List ℕ)). Unknown (defined_by_all (kinds h) r) 2 (used_by_all (kinds h) r) number place) s.whole u)
    broken_lines (in_circle rows w k c) =
        let s : Sections rows = sections rows w in
        circle_refused s.ins s.lats s.outs s.gs s.right_i s.right_l s.right_o s.right_g
        (subst (λ (r : List (List ℕ)). All (All (Known (defined_by_all (kinds h) r))) (used_by_all (kinds h) r)) s.whole k)
        (subst (λ (r : List (List ℕ)). Circle (3 + h.inputs + h.latches) (gates_on h r) number place) s.whole c)
    broken_lines (in_symbols rows w u n) =
        let s : Sections rows = sections rows w in
        symbols_refused s.ins s.lats s.outs s.gs s.right_i s.right_l s.right_o s.right_g (subst (WellUsed h) s.whole u) n

    -- the numbers of these faults are 4 to 8 and 16
    pub body_range : BodyBroken h rest number place → (4 ≤ number) × ((number ≤ bad_symbol) ⊎ (number ≡ gate_circle))
    body_range (in_lines f) = let (low, high) = first_range h.largest (kinds h) [] rest 2 number place f in (low, inl (omega (arith, high)))
    body_range (in_use rows w u) = let seven : number ≡ 7 = u.seven in (omega arith, inl (omega arith))
    body_range (in_circle rows w k c) = (omega (arith, c.sixteen), inr c.sixteen)
    body_range (in_symbols rows w k n) = let eight : number ≡ 8 = n.eight in (omega arith, inl (omega arith))
