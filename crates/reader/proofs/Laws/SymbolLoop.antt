-- Symbol lines read one by one: what is left of them equals the whole. Assumes nothing.
use Prim.Native.Nat.{ℕ, zero, suc, ◌+◌, ◌<◌, ◌≤◌, min}
use native.Mathlib.Decide.{ℕ_discrete}
use native.Mathlib.Omega.{arith}
use mathlib.Core.Bool.{Bool, true, false, cond, ◌&&◌, ◌||◌}
use mathlib.Core.List.{List, [], ◌∷◌, ◌++◌, flat_map}
use mathlib.Core.Option.{none, some}
use mathlib.Core.Path.{◌≡◌, refl, sym, ap, ap₂, ◌∙◌, subst}
use lib.Dec.{eqb}
use lib.ListN.{length, get_or, take, drop, set, length-set, length-drop}
use lib.Seq.{take-append_seam, drop-append_seam, get_or-set_same, get_or-set_other}
use borrow.Author.Tests.{eq-eqb, eqb-true}
use Rattle.below.specs.Among.{among}
use Rattle.below.proofs.Laws.Among.{among_snoc}
use Rattle.bits.specs.Bit.{one_if}
use Rattle.bits.proofs.Laws.Bytes.{both_true}
use Rattle.std.specs.Prelude.{Some, None, Ok, Err}
use Rattle.std.specs.List.{IsFirstMatchOrLen}
use Rattle.std.proofs.lemmas.List.{nil_from_length}
use Rattle.below.specs.Table.{table}
use Rattle.below.proofs.Laws.Table.{length_table}
use Rattle.circuit.specs.Fault.{number_of}
use Rattle.circuit.specs.Limits.{base}
use Rattle.circuit.specs.declared.numbers.Fault.{Fault}
use Rattle.circuit.specs.Outcome.{refused}
use Rattle.reader.proofs.Laws.Zeros.{zeros_at}
use Rattle.lines.specs.declared.symbol.Symbol.{Symbol as Value}
use Rattle.text.specs.Header.{Header}
use Rattle.text.specs.Line.{lines, before}
use Rattle.text.specs.Symbol.{Symbol, input_letter, latch_letter, output_letter, names, positions, symbol_of, symbol_lines, or_bad_symbol, is_controllable}
use Rattle.text.specs.Symbol.{is_controllable_name}
use Rattle.lines.specs.Inner.Named.{Named, slot_of}
use Rattle.reader.specs.Inner.AllLines.{line_count}
use Rattle.reader.specs.Inner.Few.{Few}
use Rattle.reader.specs.Inner.SymbolsAs.{Flags, SymbolsRead}
use Rattle.lines.specs.Inner.SymboledAs.{IsSymbol, SymbolAs}
use Rattle.fields.proofs.Laws.Truth.{or-false, or-true}

-- what is cut off behind the first byte 10, or all where there is none, is the first line
first_cut : (s : List ℕ) (i n : ℕ) → n ≡ min (i + 1) (length s) → ((k d : ℕ) → k < i → eqb (get_or s k d) 10 ≡ false)
    → (i < length s → (d : ℕ) → eqb (get_or s i d) 10 ≡ true) → 0 < length s → lines s ≡ take n s ∷ lines (drop n s)
unfolding lines before
first_cut [] i n e passed found more = absurd (omega arith)
first_cut (b ∷ t) i zero e passed found more = absurd (omega arith)
first_cut (b ∷ t) zero (suc n) e passed found more = let one : n ≡ 0 = omega arith in rw (one, found (omega arith) 0) refl
first_cut (b ∷ []) (suc i) (suc n) e passed found more = let one : n ≡ 0 = omega arith in rw (one, passed 0 0 (omega arith)) refl
first_cut (b ∷ c ∷ t) (suc i) (suc n) e passed found more = rw (passed 0 0 (omega arith))
    (ap (before b) (first_cut (c ∷ t) i n (omega (arith, e)) (λ k d low. passed (suc k) d (omega (arith, low))) (λ low d. found (omega (arith, low)) d)
    (omega arith)))

pub line_cut : (s line behind : List ℕ) → s ≡ line ++ behind → (i : ℕ) → length line ≡ min (i + 1) (length s)
    → IsFirstMatchOrLen (λ b. eqb b 10) s i → 0 < length s → lines s ≡ line ∷ lines behind
line_cut s line behind parts i size here more =
    first_cut s i (length line) size (λ k d low. here.0 k d (omega arith) low) here.1 more
    ∙ ap₂ {C = List (List ℕ)} (λ x (y : List ℕ). x ∷ lines y) (ap (take (length line)) parts ∙ take-append_seam line behind)
    (ap (drop (length line)) parts ∙ drop-append_seam line behind)

-- a position that lies below its count, by its letter
data Valid (h : Header) (letter position : ℕ) : Type 0 where
  input : letter ≡ input_letter → position < h.inputs → slot_of h letter position ≡ position → Valid h letter position
  latch : letter ≡ latch_letter → position < h.latches → slot_of h letter position ≡ h.inputs + position → Valid h letter position
  output : letter ≡ output_letter → position < h.outputs → slot_of h letter position ≡ h.inputs + h.latches + position → Valid h letter position

valid : (h : Header) (letter position : ℕ) → position < positions h letter → Valid h letter position
unfolding positions slot_of
valid h letter position low = by (eqb letter input_letter) (eqb letter latch_letter) (eqb letter output_letter) refl refl refl low
  where
    by : (a b c : Bool) → eqb letter input_letter ≡ a → eqb letter latch_letter ≡ b → eqb letter output_letter ≡ c
        → position < cond a h.inputs (cond b h.latches (cond c h.outputs 0)) → Valid h letter position
    by true b c e f g l = input (eqb-true _ _ e) l (rw e)
    by false true c e f g l = latch (eqb-true _ _ f) l (rw (e, f))
    by false false true e f g l = output (eqb-true _ _ g) l (rw (e, f))
    by false false false e f g l = absurd (omega arith)

-- two such positions with one mark are the same
one_slot : (h : Header) (k p m q : ℕ) → Valid h k p → Valid h m q → slot_of h k p ≡ slot_of h m q → (k ≡ m) × (p ≡ q)
one_slot h k p m q (input a b c) (input d e f) s = (a ∙ sym d, sym c ∙ s ∙ f)
one_slot h k p m q (input a b c) (latch d e f) s = absurd (omega arith)
one_slot h k p m q (input a b c) (output d e f) s = absurd (omega arith)
one_slot h k p m q (latch a b c) (input d e f) s = absurd (omega arith)
one_slot h k p m q (latch a b c) (latch d e f) s = (a ∙ sym d, omega arith)
one_slot h k p m q (latch a b c) (output d e f) s = absurd (omega arith)
one_slot h k p m q (output a b c) (input d e f) s = absurd (omega arith)
one_slot h k p m q (output a b c) (latch d e f) s = absurd (omega arith)
one_slot h k p m q (output a b c) (output d e f) s = (a ∙ sym d, omega arith)

slot_below : (h : Header) (k p : ℕ) → Valid h k p → slot_of h k p < h.inputs + h.latches + h.outputs
slot_below h k p (input a b c) = omega arith
slot_below h k p (latch a b c) = omega arith
slot_below h k p (output a b c) = omega arith

module _ (h : Header) (s : Symbol) (below : s.position < positions h s.letter) where
  -- one more symbol is marked
  named_more : (marks : List ℕ) (seen : List Symbol) → h.inputs + h.latches + h.outputs ≤ length marks → Named h marks seen
      → Named h (set marks (slot_of h s.letter s.position) 1) (seen ++ (s ∷ []))
  unfolding Named names
  named_more marks seen all says letter position low = elim (ℕ_discrete (slot_of h letter position) (slot_of h s.letter s.position))
      [ yes e ↦ same e | no d ↦ other d ] ∙ sym (among_snoc (names letter position) seen s)
    where
      mine : Valid h s.letter s.position
      mine = valid h s.letter s.position below

      yours : Valid h letter position
      yours = valid h letter position low

      slot : ℕ
      slot = slot_of h s.letter s.position

      same : slot_of h letter position ≡ slot → eqb (get_or (set marks slot 1) (slot_of h letter position) 0)
          1 ≡ (among (names letter position) seen || names letter position s)
      same e =
          let (l, p) = one_slot h letter position s.letter s.position yours mine e in
          let set-it = get_or-set_same marks slot 1 0 (omega (arith, slot_below h s.letter s.position mine)) in
          rw (e, set-it, eq-eqb s.letter letter (sym l), eq-eqb s.position position (sym p)) (sym (or-true (among (names letter position) seen)))

      other : (slot_of h letter position ≡ slot → ⊥) → eqb (get_or (set marks slot 1) (slot_of h letter position) 0)
          1 ≡ (among (names letter position) seen || names letter position s)
      other d = rw (get_or-set_other marks slot (slot_of h letter position) 1 0 d, unnamed d)
          (says letter position low ∙ sym (or-false (among (names letter position) seen)))
        where
          unnamed : (slot_of h letter position ≡ slot → ⊥) → names letter position s ≡ false
          unnamed d' = by (names letter position s) refl
            where
              by : (b : Bool) → names letter position s ≡ b → names letter position s ≡ false
              by true e = let (l, p) = both_true (eqb s.letter letter) (eqb s.position position) e in absurd
                  (d' (ap₂ (slot_of h) (sym (eqb-true _ _ l)) (sym (eqb-true _ _ p))))
              by false e = e

  -- an input's position lies below their count
  abbrev controls : ℕ → Bool
  controls position = names input_letter position s && is_controllable_name s.name

  inside : true ≡ controls s.position → s.position < h.inputs
  unfolding names
  inside e = low (valid h s.letter s.position below)
    where
      letter : s.letter ≡ input_letter
      letter = eqb-true _ _ (both_true (eqb s.letter input_letter) (eqb s.position s.position)
          (both_true (names input_letter s.position s) (is_controllable_name s.name) (sym e)).0).0

      low : Valid h s.letter s.position → s.position < h.inputs
      low (input a b c) = b
      low (latch a b c) = absurd (omega (arith, letter))
      low (output a b c) = absurd (omega (arith, letter))

  -- the flags after one more symbol
  flags_more : (flags : List ℕ) (seen : List Symbol) (flag : Bool) → h.inputs ≤ length flags → flag ≡ controls s.position → Flags h.inputs flags seen
      → Flags h.inputs (cond flag (set flags s.position 1) flags) (seen ++ (s ∷ []))
  unfolding is_controllable one_if names
  flags_more flags seen flag all is w = record { says = says; others = λ position high. behind flag is position high; long = size flag ∙ w.long }
    where
      size : (f : Bool) → length (cond f (set flags s.position 1) flags) ≡ length flags
      size true = length-set flags s.position 1
      size false = refl

      behind : (f : Bool) → f ≡ controls s.position → (position : ℕ) → h.inputs ≤ position → get_or (cond f (set flags s.position 1) flags) position 0 ≡ 0
      behind true e position high = get_or-set_other flags s.position position 1 0 (λ q. omega (arith, inside e)) ∙ w.others position high
      behind false e position high = w.others position high

      before_it : ℕ → Bool
      before_it position = among (λ t. names input_letter position t && is_controllable_name t.name) seen

      elsewhere : (position : ℕ) → (position ≡ s.position → ⊥) → controls position ≡ false
      elsewhere position d = go (names input_letter position s) refl
        where
          go : (b : Bool) → names input_letter position s ≡ b → (b && is_controllable_name s.name) ≡ false
          go true e = absurd (d (sym (eqb-true _ _ (both_true (eqb s.letter input_letter) (eqb s.position position) e).1)))
          go false e = refl

      by : (f : Bool) → f ≡ controls s.position → (position : ℕ) → position < h.inputs → Dec (position ≡ s.position)
          → get_or (cond f (set flags s.position 1) flags) position 0 ≡ one_if (before_it position || controls position)
      by true e position l (yes q) =
          rw (
            subst (λ (p : ℕ). get_or (set flags s.position 1) p 0 ≡ 1) (sym q) (get_or-set_same flags s.position 1 0 (omega (arith, inside e))),
            subst
                (λ (p : ℕ). controls p ≡ true) (sym q) (sym e),
          )
          (ap one_if (sym (or-true (before_it position))))
      by true e position l (no d) = rw (get_or-set_other flags s.position position 1 0 d, elsewhere position d)
          (w.says position l ∙ ap one_if (sym (or-false (before_it position))))
      by false e position l (yes q) = subst (λ (b : Bool). get_or flags position 0 ≡ one_if (before_it position || b)) (e ∙ ap controls (sym q))
          (w.says position l ∙ ap one_if (sym (or-false (before_it position))))
      by false e position l (no d) = rw (elsewhere position d) (w.says position l ∙ ap one_if (sym (or-false (before_it position))))

      says : (position : ℕ) → position < h.inputs → get_or (cond flag (set flags s.position 1) flags) position 0 ≡ one_if
          (is_controllable (seen ++ (s ∷ [])) position)
      says position l =
          by flag is position l (ℕ_discrete position s.position)
          ∙ ap one_if (sym (among_snoc (λ t. names input_letter position t && is_controllable_name t.name) seen s))

-- what the loop knows: the symbols seen, as the marks and the flags say them, and what is left
pub record Symbolling (h : Header) (bytes : List ℕ) (at : ℕ) (marks flags left : List ℕ) (k : ℕ) : Type 0 where
  pub seen : List Symbol
  pub named : Named h marks seen
  pub flagged : Flags h.inputs flags seen
  pub whole : symbol_lines h (2 + line_count h) [] (lines (drop at bytes)) ≡ symbol_lines h (2 + line_count h + k) seen (lines left)
  pub marks_all : length marks ≡ base.inputs + base.latches + base.outputs
  pub count : k + length left ≤ length bytes

pub symbolling_starts : (h : Header) (bytes : List ℕ) (at : ℕ) (marks flags left : List ℕ) (k : ℕ) → left ≡ drop at bytes → k ≡ 0
    → marks ≡ table (λ i. 0) (base.inputs + base.latches + base.outputs) → flags ≡ table (λ i. 0) base.inputs
    → Symbolling h bytes at marks flags left k
unfolding Named among is_controllable one_if
symbolling_starts h bytes at marks flags left k whole first m f =
    record {
      seen = [];
      named = λ letter position low. rw (ap (λ (l : List ℕ). get_or l (slot_of h letter position) 0) m
          ∙ zeros_at (base.inputs + base.latches + base.outputs) (slot_of h letter position));
      flagged = record {
        says = λ position low. none position;
        others = λ position high. none position;
        long = ap length f ∙ length_table {A = ℕ} (λ i. 0) base.inputs;
      };
      whole = ap₂ (λ (place : ℕ) (l : List ℕ). symbol_lines h place [] (lines l)) start (sym whole);
      marks_all = ap length m ∙ length_table {A = ℕ} (λ i. 0) (base.inputs + base.latches + base.outputs);
      count = omega (arith, first, ap length whole, length-drop at bytes);
    }
  where
    start : 2 + line_count h ≡ 2 + line_count h + k
    start = omega (arith, first)

    none : (i : ℕ) → get_or flags i 0 ≡ 0
    none i = ap (λ (l : List ℕ). get_or l i 0) f ∙ zeros_at base.inputs i

module _ (h : Header) (bytes : List ℕ) (few : Few h) (at : ℕ) (marks flags left : List ℕ) (k : ℕ)
    (w : Symbolling h bytes at marks flags left k) where
  pub symbolling_ends : length left ≡ 0 → SymbolsRead h bytes at flags
  unfolding symbol_lines lines
  symbolling_ends end = record {
    behind = record { symbols = w.seen; comment = none };
    whole = w.whole ∙ rw (nil_from_length left end);
    flagged = w.flagged;
  }

  module _ (line behind : List ℕ) (cut : lines left ≡ line ∷ lines behind) where
    -- the line at hand decides
    next : symbol_lines h (2 + line_count h) [] (lines (drop at bytes)) ≡ symbol_lines h (2 + line_count h + k) w.seen (line ∷ lines behind)
    next = w.whole ∙ ap (symbol_lines h (2 + line_count h + k) w.seen) cut

    pub symbolling_comments : SymbolAs h marks line (Ok None) → SymbolsRead h bytes at flags
    unfolding symbol_lines
    symbolling_comments e = record {
      behind = record { symbols = w.seen; comment = some (flat_map (λ l. l) (lines behind)) };
      whole = next ∙ rw (e, symbol_lines);
      flagged = w.flagged;
    }

    pub symbolling_refuses : (fault : Fault) → SymbolAs h marks line (Err fault)
        → symbol_lines h (2 + line_count h) [] (lines (drop at bytes)) ≡ refused (number_of fault) (2 + line_count h + k)
    unfolding symbol_lines or_bad_symbol
    symbolling_refuses fault e = next ∙ rw (e.0, symbol_lines, e.2 w.seen w.named, e.1)

    module _ (v : Value) (e : SymbolAs h marks line (Ok (Some v))) where
      one : IsSymbol h (symbol_of h w.seen line) v
      one = e.1 w.seen w.named

      low : one.symbol.position < positions h one.symbol.letter
      low = subst (λ (p : ℕ). p < positions h one.symbol.letter) (sym one.at) one.below

      pub slot_fits : v.slot < length marks
      slot_fits =
          let mine = slot_below h one.symbol.letter one.symbol.position (valid h one.symbol.letter one.symbol.position low) in
          omega (arith, one.marked, ap (slot_of h one.symbol.letter) one.at, mine, few.inputs, few.latches, few.outputs, w.marks_all)

      flag_is : v.controls ≡ (names input_letter one.symbol.position one.symbol && is_controllable_name one.symbol.name)
      flag_is = one.flagged ∙ ap (λ (p : ℕ). names input_letter p one.symbol && is_controllable_name one.symbol.name) (sym one.at)

      pub position_fits : v.controls ≡ true → v.position < length flags
      position_fits c = omega (arith, inside h one.symbol low (sym c ∙ flag_is), one.at, few.inputs, w.flagged.long)

      pub symbolling_goes_on : (flags' : List ℕ) (k' : ℕ) → length behind < length left → k' ≡ k + 1
          → flags' ≡ cond v.controls (set flags v.position 1) flags → Symbolling h bytes at (set marks v.slot 1) flags' behind k'
      unfolding symbol_lines or_bad_symbol one
      symbolling_goes_on flags' k' fewer after f =
          let s = one.symbol in
          let place : suc (2 + line_count h + k) ≡ 2 + line_count h + k' = omega (arith, after) in
          rw f
          (record {
            seen = w.seen ++ (s ∷ []);
            named = subst (λ (j : ℕ). Named h (set marks j 1) (w.seen ++ (s ∷ []))) (ap (slot_of h s.letter) one.at ∙ sym one.marked)
                (named_more h s low marks w.seen (omega (arith, w.marks_all, few.inputs, few.latches, few.outputs)) w.named);
            flagged =
                subst (λ (p : ℕ). Flags h.inputs (cond v.controls (set flags p 1) flags) (w.seen ++ (s ∷ []))) one.at
                (flags_more h s low flags w.seen v.controls (omega (arith, w.flagged.long, few.inputs)) flag_is w.flagged);
            whole = next ∙ rw (e.0, symbol_lines, one.is) (ap (λ (p : ℕ). symbol_lines h p (w.seen ++ (s ∷ [])) (lines behind)) place);
            marks_all = length-set marks v.slot 1 ∙ w.marks_all;
            count = omega (arith, w.count, fewer, after);
          })
