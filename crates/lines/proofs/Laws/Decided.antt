-- What is promised of one line decides the answer. Assumes nothing.
use Prim.Native.Nat.{ℕ, ◌<◌}
use native.Mathlib.Omega.{arith}
use mathlib.Core.Bool.{Bool, true, false, cond, ◌&&◌, ◌||◌, true≢false}
use mathlib.Core.List.{List, [], ◌++◌}
use mathlib.Core.Option.{none, some}
use mathlib.Core.Path.{◌≡◌, refl, sym, ap, ap₂, ◌∙◌, subst}
use lib.Dec.{eqb}
use lib.ListN.{get_or, take}
use borrow.Author.Tests.{lt-ltb, eq-eqb, eqb-true}
use Rattle.below.specs.Among.{among}
use Rattle.circuit.specs.Fault.{number_of}
use Rattle.circuit.specs.Outcome.{Outcome, taken, refused}
use Rattle.circuit.proofs.Laws.Fault.{same_number}
use Rattle.fields.proofs.Laws.Decided.{same_numbers, defined_by, marks_say}
use Rattle.fields.proofs.Laws.Picked.{picked, picked_none, picked_one, among_append}
use Rattle.lines.specs.Inner.LinedAs.{LinedAs}
use Rattle.lines.specs.Inner.Named.{Named, slot_of}
use Rattle.lines.specs.Inner.SymboledAs.{SymbolAs}
use Rattle.lines.specs.Inner.Headed.{HeadedAs}
use Rattle.std.specs.Prelude.{Option as Found, Some, None, Result, Ok, Err}
use Rattle.circuit.specs.declared.numbers.Fault.{Fault}
use Rattle.lines.specs.declared.header.Header.{Header as HeaderValue}
use Rattle.lines.specs.declared.symbol.Symbol.{Symbol as SymbolValue}
use Rattle.fields.specs.Inner.Marks.{Marks}
use Rattle.text.specs.Header.{Header}
use Rattle.text.specs.Line.{numbers_of}
use Rattle.text.specs.Section.{judged}
use Rattle.text.specs.Rules.{Rule}
use Rattle.text.specs.Symbol.{Symbol, input_letter, latch_letter, output_letter, names, positions, is_controllable_name}
use Rattle.fields.proofs.Laws.Truth.{or-false}

-- the marks say which variables are defined, and so the rule judges the line in one way
agree : (rule : Rule) (marks line : List ℕ) (f g : ℕ → Outcome (List ℕ))
    → ((defined : List ℕ) (place : ℕ) → Marks marks defined → judged rule defined place (numbers_of rule.count line) ≡ f place)
    → ((defined : List ℕ) (place : ℕ) → Marks marks defined → judged rule defined place (numbers_of rule.count line) ≡ g place) → f 0 ≡ g 0
agree rule marks line f g v w = sym (v (defined_by marks) 0 (marks_say marks)) ∙ w (defined_by marks) 0 (marks_say marks)

pub lined_decided : (largest : ℕ) (rule : Rule) (marks line : List ℕ) (r q : Result (List ℕ) Fault) → LinedAs largest rule marks line r
    → LinedAs largest rule marks line q → r ≡ q
lined_decided largest rule marks line (Ok xs) (Ok ys) (v, l) (w, m) =
    let told = agree rule marks line (λ p. taken (take rule.count xs)) (λ p. taken (take rule.count ys)) v w in
    let front : take rule.count xs ≡ take rule.count ys = cc in
    ap {B = Result (List ℕ) Fault} Ok (same_numbers rule.count xs ys (l.three ∙ sym m.three) front l.others m.others)
lined_decided largest rule marks line (Ok xs) (Err n) (v, l) w =
    let told = agree rule marks line (λ p. taken (take rule.count xs)) (refused (number_of n)) v w in
    cc
lined_decided largest rule marks line (Err n) (Ok xs) v (w, l) =
    let told = agree rule marks line (refused (number_of n)) (λ p. taken (take rule.count xs)) v w in
    cc
lined_decided largest rule marks line (Err n) (Err k) v w =
    let told = agree rule marks line (refused (number_of n)) (refused (number_of k)) v w in
    ap {B = Result (List ℕ) Fault} Err (same_number n k cc)

-- the header's five numbers
pub header_decided : (line : List ℕ) (r q : Found HeaderValue) → HeadedAs line r → HeadedAs line q → r ≡ q
header_decided line (Some v) (Some w) e f =
    let told = sym e ∙ f in
    let m : v.largest ≡ w.largest = cc in
    let i : v.inputs ≡ w.inputs = cc in
    let l : v.latches ≡ w.latches = cc in
    let o : v.outputs ≡ w.outputs = cc in
    let a : v.gates ≡ w.gates = cc in
    λ x. Some (record { largest = m x; inputs = i x; latches = l x; outputs = o x; gates = a x })
header_decided line (Some v) None e f = let told = sym e ∙ f in cc
header_decided line None (Some w) e f = let told = sym e ∙ f in cc
header_decided line None None e f = refl

-- any marks say which positions are named
module _ (h : Header) (marks : List ℕ) where
  is_named : ℕ → ℕ → Bool
  is_named letter position = eqb (get_or marks (slot_of h letter position) 0) 1

  symbol_for : ℕ → ℕ → Symbol
  symbol_for letter position = record { letter = letter; position = position; name = [] }

  abbrev of : ℕ → ℕ → List Symbol
  of letter n = picked (is_named letter) (symbol_for letter) n

  named_by : List Symbol
  named_by = of input_letter h.inputs ++ (of latch_letter h.latches ++ of output_letter h.outputs)

  -- a position among the symbols of its own letter, and among those of another
  own : (letter position n : ℕ) → position < n → among (names letter position) (of letter n) ≡ is_named letter position
  unfolding names symbol_for
  own letter position n l = picked_one (is_named letter) (symbol_for letter) (names letter position) position (λ j. rw (eq-eqb letter letter refl)) n
      ∙ rw (lt-ltb position n l)

  other : (letter position k n : ℕ) → eqb k letter ≡ false → among (names letter position) (of k n) ≡ false
  unfolding names symbol_for
  other letter position k n e = picked_none (is_named k) (symbol_for k) (names letter position) (λ j. rw e) n

  marks_name : Named h marks named_by
  unfolding Named named_by is_named positions
  marks_name letter position low = by (eqb letter input_letter) (eqb letter latch_letter) (eqb letter output_letter) refl refl refl low
    where
      all : (k : ℕ) → among (names k position) named_by ≡ (among (names k position) (of input_letter h.inputs)
          || (among (names k position) (of latch_letter h.latches) || among (names k position) (of output_letter h.outputs)))
      all k =
          among_append (names k position) (of input_letter h.inputs) (of latch_letter h.latches ++ of output_letter h.outputs)
          ∙ ap (λ (b : Bool). among (names k position) (of input_letter h.inputs) || b)
          (among_append (names k position) (of latch_letter h.latches) (of output_letter h.outputs))

      so : (k : ℕ) → letter ≡ k → is_named k position ≡ among (names k position) named_by → is_named letter position ≡ among (names letter position) named_by
      so k e f = subst (λ (m : ℕ). is_named m position ≡ among (names m position) named_by) (sym e) f

      by : (a b c : Bool) → eqb letter input_letter ≡ a → eqb letter latch_letter ≡ b → eqb letter output_letter ≡ c
          → position < cond a h.inputs (cond b h.latches (cond c h.outputs 0)) → is_named letter position ≡ among (names letter position) named_by
      by true b c e f g l =
          let mine = own input_letter position h.inputs l in
          let two = other input_letter position latch_letter h.latches refl in
          let three = other input_letter position output_letter h.outputs refl in
          so input_letter (eqb-true _ _ e) (sym (all input_letter ∙ rw (mine, two, three) (or-false (is_named input_letter position))))
      by false true c e f g l =
          let one = other latch_letter position input_letter h.inputs refl in
          let mine = own latch_letter position h.latches l in
          let three = other latch_letter position output_letter h.outputs refl in
          so latch_letter (eqb-true _ _ f) (sym (all latch_letter ∙ rw (one, mine, three) (or-false (is_named latch_letter position))))
      by false false true e f g l =
          let one = other output_letter position input_letter h.inputs refl in
          let two = other output_letter position latch_letter h.latches refl in
          let mine = own output_letter position h.outputs l in
          so output_letter (eqb-true _ _ g) (sym (all output_letter ∙ rw (one, two, mine)))
      by false false false e f g l = absurd (omega arith)

  pub symbol_decided : (line : List ℕ) (r q : Result (Found SymbolValue) Fault) → SymbolAs h marks line r → SymbolAs h marks line q → r ≡ q
  symbol_decided line (Ok None) (Ok None) v w = refl
  symbol_decided line (Ok None) (Ok (Some b)) v w = absurd (true≢false (sym v ∙ w.0))
  symbol_decided line (Ok None) (Err g) v w = absurd (true≢false (sym v ∙ w.0))
  symbol_decided line (Ok (Some a)) (Ok None) v w = absurd (true≢false (sym w ∙ v.0))
  symbol_decided line (Err f) (Ok None) v w = absurd (true≢false (sym w ∙ v.0))
  symbol_decided line (Err f) (Err g) v w = ap {B = Result (Found SymbolValue) Fault} Err (v.1 ∙ sym w.1)
  symbol_decided line (Ok (Some a)) (Err g) v w =
      let one = v.1 named_by marks_name in
      let told : some one.symbol ≡ none = sym one.is ∙ w.2 named_by marks_name in
      cc
  symbol_decided line (Err f) (Ok (Some b)) v w =
      let one = w.1 named_by marks_name in
      let told : none ≡ some one.symbol = sym (v.2 named_by marks_name) ∙ one.is in
      cc
  symbol_decided line (Ok (Some a)) (Ok (Some b)) v w =
      let one = v.1 named_by marks_name in
      let two = w.1 named_by marks_name in
      let told : some one.symbol ≡ some two.symbol = sym one.is ∙ two.is in
      let same : one.symbol ≡ two.symbol = cc in
      let places : a.position ≡ b.position = sym one.at ∙ ap (λ (s : Symbol). s.position) same ∙ two.at in
      let slots : a.slot ≡ b.slot = one.marked ∙ ap₂ (λ (s : Symbol) (n : ℕ). slot_of h s.letter n) same places ∙ sym two.marked in
      let flags : a.controls ≡ b.controls =
      one.flagged ∙ ap₂ (λ (s : Symbol) (n : ℕ). names input_letter n s && is_controllable_name s.name) same places ∙ sym two.flagged in
      λ x. Ok (Some (record { slot = slots x; position = places x; controls = flags x }))
