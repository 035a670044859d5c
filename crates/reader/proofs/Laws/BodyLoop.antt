-- The lines before the symbols read one by one: what is left of them equals the whole. Assumes nothing.
use Prim.Native.Nat.{ℕ, zero, suc, ◌+◌, ◌*◌, ◌-◌, ◌/◌, ◌<◌, ◌≤◌}
use native.Mathlib.Decide.{dec_lt, ℕ_discrete}
use native.Mathlib.Numerals.{add-one}
use native.Mathlib.Omega.{arith}
use native.Mathlib.Nat.{sub-zero}
use mathlib.Core.Bool.{Bool, true, false, cond, ◌||◌}
use mathlib.Core.List.{List, [], ◌∷◌, ◌++◌, append-nil}
use mathlib.Core.Path.{◌≡◌, refl, sym, ap, ap₂, ◌∙◌, subst}
use lib.Dec.{eqb}
use lib.ListN.{length, get_or, take, drop, set, length-set}
use lib.Seq.{drop-drop, get_or-set_same, get_or-set_other}
use borrow.Author.Tests.{eq-eqb, ne_eqb}
use Rattle.below.specs.Among.{among, member}
use Rattle.below.specs.Table.{table}
use Rattle.below.proofs.Laws.Among.{member_snoc}
use Rattle.below.proofs.Laws.Table.{table_same, length_table, get_or_table, get_or_table_past}
use Rattle.circuit.specs.Fault.{number_of}
use Rattle.circuit.specs.Limits.{base}
use Rattle.circuit.specs.Literal.{variable}
use Rattle.circuit.specs.Outcome.{taken, refused, ◌>>=◌}
use Rattle.circuit.specs.declared.numbers.Fault.{Fault}
use Rattle.fields.specs.Inner.Marks.{Marks}
use Rattle.fields.proofs.Laws.Position.{lines-behind}
use Rattle.fields.proofs.Laws.Truth.{or-false, or-true}
use Rattle.std.specs.Prelude.{Ok, Err}
use Rattle.lines.specs.Inner.Kinds.{rule_of, form_of, kind_at}
use Rattle.lines.specs.Inner.LinedAs.{LinedAs}
use Rattle.lines.specs.declared.kind.Kind.{Kind}
use Rattle.lines.specs.declared.kind.Kind.TheVariants.{Input, Latch, Output, Gate}
use Rattle.reader.specs.Inner.AllLines.{rule_at, line_count, lined}
use Rattle.reader.specs.Inner.BodyAs.{BodyAt}
use Rattle.reader.specs.Inner.Few.{Few}
use Rattle.reader.specs.Inner.Rows.{cell, row_at}
use Rattle.text.specs.Header.{Header}
use Rattle.text.specs.Line.{lines, first_line, numbers_of}
use Rattle.text.specs.Rules.{input_rule, latch_rule, output_rule, gate_rule}
use Rattle.text.specs.Section.{Body, judged, with_row}
use Rattle.text.specs.Stages.{unread}
use Rattle.reader.proofs.Laws.Place.{line_part, line_ends_within}
use Rattle.reader.proofs.Laws.Zeros.{zeros_at}

-- where nothing is marked, nothing is defined
marks_nothing : (n : ℕ) → Marks (table (λ i. 0) n) []
unfolding Marks member among
marks_nothing n v = rw (zeros_at n v)

-- one more variable is defined and marked
mark_more : (marks defined : List ℕ) (v : ℕ) → v < length marks → Marks marks defined → Marks (set marks v 1) (defined ++ (v ∷ []))
unfolding Marks
mark_more marks defined v h says w = elim (ℕ_discrete w v) [ yes e ↦ same e | no d ↦ other d ] ∙ sym (member_snoc w defined v)
  where
    same : w ≡ v → eqb (get_or (set marks v 1) w 0) 1 ≡ (member w defined || eqb w v)
    same e = rw (e, get_or-set_same marks v 1 0 h, eq-eqb v v refl) (sym (or-true (member v defined)))

    other : (w ≡ v → ⊥) → eqb (get_or (set marks v 1) w 0) 1 ≡ (member w defined || eqb w v)
    other d = rw (get_or-set_other marks v w 1 0 d, ne_eqb w v d) (says w ∙ sym (or-false (member w defined)))

-- the marks after a line of a kind, whose first literal is given
abbrev pub marks_after : Kind → (marks : List ℕ) (own : ℕ) → List ℕ
marks_after kind marks own = cond (form_of kind).defines (set marks (variable own) 1) marks

pub marks_set : (k : Kind) (marks : List ℕ) (own : ℕ) → (form_of k).defines ≡ true → marks_after k marks own ≡ set marks (own / 2) 1
unfolding variable
marks_set k marks own e = rw e

pub marks_stay : (k : Kind) (marks : List ℕ) (own : ℕ) → (form_of k).defines ≡ false → marks_after k marks own ≡ marks
marks_stay k marks own e = rw e

-- what a line of a kind defines, and its marks
abbrev news : Kind → ℕ → List ℕ
news k own = cond (form_of k).defines (variable own ∷ []) []

news_own : (k : Kind) (M a b c : ℕ) → cond (rule_of k M).defines (variable (get_or (take (rule_of k M).count (a ∷ b ∷ c ∷ [])) 0 0) ∷ []) [] ≡ news k a
unfolding input_rule latch_rule output_rule gate_rule
news_own Input M a b c = refl
news_own Latch M a b c = refl
news_own Output M a b c = refl
news_own Gate M a b c = refl

marks_more : (k : Kind) (marks defined : List ℕ) (own : ℕ) → variable own < length marks → Marks marks defined
    → Marks (marks_after k marks own) (defined ++ news k own)
marks_more k marks defined own h says = by (form_of k).defines
  where
    by : (b : Bool) → Marks (cond b (set marks (variable own) 1) marks) (defined ++ cond b (variable own ∷ []) [])
    by true = mark_more marks defined (variable own) h says
    by false = subst (Marks marks) (sym (append-nil defined)) says

marks_long : (k : Kind) (marks : List ℕ) (own : ℕ) → length (marks_after k marks own) ≡ length marks
marks_long k marks own = by (form_of k).defines
  where
    by : (b : Bool) → length (cond b (set marks (variable own) 1) marks) ≡ length marks
    by true = length-set marks (variable own) 1
    by false = refl

three_cells : (row : List ℕ) → length row ≡ 3 → row ≡ get_or row 0 0 ∷ get_or row 1 0 ∷ get_or row 2 0 ∷ []
three_cells (a ∷ b ∷ c ∷ []) e = refl
three_cells [] e = absurd (omega arith)
three_cells (a ∷ []) e = absurd (omega arith)
three_cells (a ∷ b ∷ []) e = absurd (omega arith)
three_cells (a ∷ b ∷ c ∷ d ∷ rest) e = absurd (omega arith)

-- rows of nothing hold literals of a circuit
nothing : (n i which : ℕ) → cell (table (λ i. 0 ∷ 0 ∷ 0 ∷ []) n) i which < 2 * base.variable + 2
unfolding cell
nothing n i which = subst (λ (k : ℕ). k < 2 * base.variable + 2) (sym (elim (dec_lt i n) [
  | yes h ↦ ap (λ (r : List ℕ). get_or r which 0) (get_or_table {A = List ℕ} (λ i. 0 ∷ 0 ∷ 0 ∷ []) n i [] h) ∙ zeros which
  | no h ↦ ap (λ (r : List ℕ). get_or r which 0) (get_or_table_past {A = List ℕ} (λ i. 0 ∷ 0 ∷ 0 ∷ []) n i [] (omega arith))
])) (omega arith)
  where
    zeros : (k : ℕ) → ◌≡◌ {A = ℕ} (get_or (0 ∷ 0 ∷ 0 ∷ []) k 0) 0
    zeros zero = refl
    zeros (suc zero) = refl
    zeros (suc (suc zero)) = refl
    zeros (suc (suc (suc k))) = refl

-- what the loop knows: j lines are read, the rows hold them, the marks say what they define
pub record Looping (h : Header) (bytes marks : List ℕ) (rows : List (List ℕ)) (at : ℕ) (j : ℕ) : Type 0 where
  pub defined : List ℕ
  pub says : Marks marks defined
  pub whole : lined (rule_at h) 0 (line_count h) (unread (lines bytes))
      ≡ lined (rule_at h) j (line_count h - j) (record { rows = table (row_at h rows) j; defined = defined; rest = lines (drop at bytes) })
  pub count : j ≤ line_count h
  pub within : at ≤ length bytes
  pub marks_all : length marks ≡ base.variable + 1
  pub rows_all : length rows ≡ base.variable + 1
  pub literals : (i which : ℕ) → cell rows i which < 2 * base.variable + 2

pub looping_starts : (h : Header) (bytes marks : List ℕ) (rows : List (List ℕ)) → marks ≡ table (λ i. 0) (base.variable + 1)
    → rows ≡ table (λ i. 0 ∷ 0 ∷ 0 ∷ []) (base.variable + 1) → Looping h bytes marks rows 0 0
unfolding table
looping_starts h bytes marks rows m r =
    record {
      defined = [];
      says = subst (λ (l : List ℕ). Marks l []) (sym m) (marks_nothing (base.variable + 1));
      whole = rw (sub-zero);
      count = omega arith;
      within = omega arith;
      marks_all = ap length m ∙ length_table {A = ℕ} (λ i. 0) (base.variable + 1);
      rows_all = ap length r ∙ length_table {A = List ℕ} (λ i. 0 ∷ 0 ∷ 0 ∷ []) (base.variable + 1);
      literals = λ i which. subst (λ (l : List (List ℕ)). cell l i which < 2 * base.variable + 2) (sym r) (nothing (base.variable + 1) i which);
    }

module _ (h : Header) (bytes : List ℕ) (few : Few h) (marks : List ℕ) (rows : List (List ℕ)) (at : ℕ) (j : ℕ) (w : Looping h bytes marks rows at j) where
  pub looping_ends : line_count h ≤ j → (literals : (i which : ℕ) → cell rows i which < 2 * base.variable + 2)
      → BodyAt h bytes (record { rows = rows; defined = marks; behind = at; literals = literals })
  unfolding lined
  looping_ends done literals =
      record {
        defined = w.defined;
        says = w.says;
        whole = w.whole ∙ subst (λ (n : ℕ). lined (rule_at h) j n body ≡ taken body) (sym none) refl
            ∙ ap (λ (n : ℕ). taken (record { rows = table (row_at h rows) n; defined = w.defined; rest = lines (drop at bytes) })) all;
        within = w.within;
      }
    where
      body : Body
      body = record { rows = table (row_at h rows) j; defined = w.defined; rest = lines (drop at bytes) }

      none : line_count h - j ≡ 0
      none = omega arith

      all : j ≡ line_count h
      all = omega (arith, w.count)

  module _ (more : j < line_count h) (end : ℕ) (ends : end ≡ at + length (first_line (drop at bytes))) (k : Kind) (is : k ≡ kind_at h j) where
    abbrev body : Body
    body = record { rows = table (row_at h rows) j; defined = w.defined; rest = lines (drop at bytes) }

    abbrev line : List ℕ
    line = take (end - at) (drop at bytes)

    pub row_below : j < length rows
    row_below = omega (arith, few.largest, few.gates, w.rows_all)

    -- the line at hand decides
    next : lined (rule_at h) 0 (line_count h) (unread (lines bytes))
        ≡ (judged (rule_at h j) w.defined (2 + j) (numbers_of (rule_at h j).count line) >>= λ fs. lined (rule_at h) (suc j) (line_count h - suc j)
        (with_row (rule_at h j) body fs))
    unfolding lined first_line
    next =
        w.whole
        ∙ ap (λ (n : ℕ). lined (rule_at h) j n body) left
        ∙ ap (λ (l : List ℕ). judged (rule_at h j) w.defined (2 + j) (numbers_of (rule_at h j).count l) >>= λ fs. lined (rule_at h) (suc j)
        (line_count h - suc j) (with_row (rule_at h j) body fs)) (sym (line_part bytes at end ends))
      where
        left : line_count h - j ≡ suc (line_count h - suc j)
        left = omega arith

    pub looping_refuses : (fault : Fault) → LinedAs h.largest (rule_of k h.largest) marks line (Err fault)
        → lined (rule_at h) 0 (line_count h) (unread (lines bytes)) ≡ refused (number_of fault) (2 + j)
    looping_refuses fault faulty =
        next
        ∙ ap (λ o. o >>= λ fs. lined (rule_at h) (suc j) (line_count h - suc j) (with_row (rule_at h j) body fs))
        (subst (λ (q : Kind). judged (rule_of q h.largest) w.defined (2 + j) (numbers_of (rule_of q h.largest).count line)
        ≡ refused (number_of fault) (2 + j)) is
        (faulty w.defined (2 + j) w.says))

    module _ (row : List ℕ) (fine : LinedAs h.largest (rule_of k h.largest) marks line (Ok row)) where
      pub marked : variable (get_or row 0 0) < length marks
      unfolding variable
      marked = omega (arith, fine.1.each 0, few.largest, w.marks_all)

      rows' : List (List ℕ)
      rows' = set rows j row

      fs : List ℕ
      fs = take (rule_at h j).count row

      taken_line : judged (rule_at h j) w.defined (2 + j) (numbers_of (rule_at h j).count line) ≡ taken fs
      unfolding fs
      taken_line = subst (λ (q : Kind). judged (rule_of q h.largest) w.defined (2 + j) (numbers_of (rule_of q h.largest).count line) ≡ taken
          (take (rule_of q h.largest).count row)) is (fine.0 w.defined (2 + j) w.says)

      rest : drop 1 (lines (drop at bytes)) ≡ lines (drop end bytes)
      rest = lines-behind (drop at bytes) ∙ ap lines (drop-drop (length (first_line (drop at bytes))) at bytes
          ∙ ap (λ (m : ℕ). drop m bytes) (sym ends))

      -- the line's numbers are those put there, those of the lines before stay
      all_rows_lem : table (row_at h rows) j ++ (fs ∷ []) ≡ table (row_at h rows') (suc j)
      unfolding table row_at rows' fs cell
      all_rows_lem =
          ap₂ {C = List (List ℕ)} (λ l x. l ++ (x ∷ []))
          (table_same (row_at h rows) (row_at h rows') j
          (λ i l. ap (λ (r : List ℕ). take (rule_at h i).count (get_or r 0 0 ∷ get_or r 1 0 ∷ get_or r 2 0 ∷ []))
          (sym (get_or-set_other rows j i row [] (λ e. omega arith)))))
          (ap (take (rule_at h j).count) (three_cells row fine.1.three
          ∙ ap (λ (r : List ℕ). get_or r 0 0 ∷ get_or r 1 0 ∷ get_or r 2 0 ∷ []) (sym (get_or-set_same rows j row [] row_below))))

      new : cond (rule_at h j).defines (variable (get_or fs 0 0) ∷ []) [] ≡ news k (get_or row 0 0)
      unfolding fs
      new = subst (λ (q : Kind). cond (rule_of q h.largest).defines (variable (get_or (take (rule_of q h.largest).count row) 0 0) ∷ [])
          [] ≡ news k (get_or row 0 0)) is
          (subst (λ (r : List ℕ). cond (rule_of k h.largest).defines (variable (get_or (take (rule_of k h.largest).count r) 0 0) ∷ []) []
          ≡ news k (get_or row 0 0))
          (sym (three_cells row fine.1.three)) (news_own k h.largest (get_or row 0 0) (get_or row 1 0) (get_or row 2 0)))

      literals_more : (i which : ℕ) → cell (set rows j row) i which < 2 * base.variable + 2
      unfolding cell
      literals_more i which = elim (ℕ_discrete i j) [
        | yes e ↦ subst (λ (m : ℕ). get_or (get_or (set rows j row) m []) which 0 < 2 * base.variable + 2) (sym e)
            (subst (λ (r : List ℕ). get_or r which 0 < 2 * base.variable + 2) (sym (get_or-set_same rows j row [] row_below))
            (omega (arith, fine.1.each which, few.largest)))
        | no d ↦ subst (λ (r : List ℕ). get_or r which 0 < 2 * base.variable + 2) (sym (get_or-set_other rows j i row [] d)) (w.literals i which)
      ]

      pub looping_goes_on : (marks' : List ℕ) → marks' ≡ marks_after k marks (get_or row 0 0)
          → Looping h bytes marks' (set rows j row) end (j + 1)
      unfolding with_row rows'
      looping_goes_on marks' m =
          rw (add-one j, m)
          (record {
            defined = w.defined ++ news k (get_or row 0 0);
            says = marks_more k marks w.defined (get_or row 0 0) marked w.says;
            whole =
                next
                ∙ ap (λ o. o >>= λ gs. lined (rule_at h) (suc j) (line_count h - suc j) (with_row (rule_at h j) body gs)) taken_line
                ∙ ap {B = _} (lined (rule_at h) (suc j) (line_count h - suc j)) (λ x. record {
                  rows = all_rows_lem x;
                  defined = w.defined ++ new x;
                  rest = rest x;
                });
            count = more;
            within = line_ends_within bytes at end ends w.within;
            marks_all = marks_long k marks (get_or row 0 0) ∙ w.marks_all;
            rows_all = length-set rows j row ∙ w.rows_all;
            literals = literals_more;
          })
