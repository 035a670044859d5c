-- The symbol lines are refused exactly at the first line that is neither that of a symbol which may stand there nor `c` (01, "The numbers", 8).
-- Assumes nothing.
use Prim.Native.Nat.{ℕ, suc, ◌+◌, ◌<◌}
use native.Mathlib.Omega.{arith}
use native.Mathlib.Nat.{not-suc-le-zero}
use mathlib.Core.Bool.{Bool, true, false, true≢false}
use mathlib.Core.List.{List, [], ◌∷◌, ◌++◌, map, flat_map, append-nil, append_assoc}
use mathlib.Core.Option.{Option, none, some}
use mathlib.Core.Path.{◌≡◌, refl, sym, ap, ◌∙◌, subst}
use lib.Dec.{eqb, leb}
use lib.ListN.{length}
use borrow.Author.Tests.{eqb-true, le-leb, leb-true}
use Rattle.bits.specs.Bytes.{ascii, same_bytes}
use Rattle.bits.proofs.Laws.Bytes.{both_true, same_bytes_equal, same_bytes_refl}
use Rattle.circuit.specs.Outcome.{Outcome, refused}
use Rattle.text.specs.Header.{Header}
use Rattle.text.specs.NoSymbol.{NoSymbol}
use Rattle.text.specs.Numbers.{bad_symbol}
use Rattle.text.specs.Symbol.{
  Symbol,
  input_letter,
  latch_letter,
  output_letter,
  positions,
  is_name,
  names,
  symbol_of,
  is_comment,
  Symbols,
  or_bad_symbol,
  symbol_lines,
}
use Rattle.text.specs.SymbolRight.{Positioned, of_inputs, of_latches, of_outputs, SymbolRight, SymbolsRight}
use Rattle.text.specs.WellFormed.{Apart}
use Rattle.text.specs.Written.{symbol_line}
use Rattle.text.proofs.Laws.Line.{none_is-not_some}
use Rattle.text.proofs.Laws.Lists.{all_weaker, among_none, none_among}
use Rattle.text.proofs.Laws.Outcome.{taken_is-not_refused, refused_number, refused_place}
use Rattle.text.proofs.Laws.Symbol.{Good, symbol_of_line, symbol_of-is, symbol_line-is_no_comment}
use Rattle.text.proofs.Laws.SymbolRule.{name_bytes, bytes_name, apart_fresh, fresh_apart}

-- a symbol passes the tests exactly if it is right
positioned_within : (h : Header) (s : Symbol) → Positioned h s → s.position < positions h s.letter
unfolding positions
positioned_within h s (of_inputs e l) = rw e l
positioned_within h s (of_latches e l) = rw e l
positioned_within h s (of_outputs e l) = rw e l

within_positioned : (h : Header) (s : Symbol) → s.position < positions h s.letter → Positioned h s
unfolding positions
within_positioned h s l = by (eqb s.letter input_letter) (eqb s.letter latch_letter) (eqb s.letter output_letter) refl refl refl
  where
    by : (a b c : Bool) → eqb s.letter input_letter ≡ a → eqb s.letter latch_letter ≡ b → eqb s.letter output_letter ≡ c → Positioned h s
    by true b c e g k = of_inputs (eqb-true _ _ e) (rw e at l)
    by false true c e g k = of_latches (eqb-true _ _ g) (rw (e, g) at l)
    by false false true e g k = of_outputs (eqb-true _ _ k) (rw (e, g, k) at l)
    by false false false e g k = absurd (not-suc-le-zero (rw (e, g, k) at l))

right_good : (h : Header) (seen : List Symbol) (s : Symbol) → SymbolRight h seen s → Good h seen s
unfolding is_name
right_good h seen s r =
    record {
      digits = r.digits;
      bytes = name_bytes s.name r.bytes;
      long = rw (le-leb 1 (length s.name) r.some, le-leb (length s.name) 200 r.most);
      within = positioned_within h s r.positioned;
      fresh = none_among (names s.letter s.position) seen (all_weaker (λ t. Apart t s) (λ t. names s.letter s.position t ≡ false)
          (apart_fresh s) seen r.apart);
    }

good_right : (h : Header) (seen : List Symbol) (s : Symbol) → Good h seen s → SymbolRight h seen s
unfolding is_name
good_right h seen s g =
    let (a, b) = both_true (leb 1 (length s.name)) (leb (length s.name) 200) g.long in
    record {
      positioned = within_positioned h s g.within;
      digits = g.digits;
      some = leb-true 1 (length s.name) a;
      most = leb-true (length s.name) 200 b;
      bytes = bytes_name s.name g.bytes;
      apart = all_weaker (λ t. names s.letter s.position t ≡ false) (λ t. Apart t s) (fresh_apart s) seen
          (among_none (names s.letter s.position) seen g.fresh);
    }

-- a line is read as no symbol exactly if it is that of none which may stand there
no_symbol : (h : Header) (seen : List Symbol) (line : List ℕ) → symbol_of h seen line ≡ none → (s : Symbol) → SymbolRight h seen s → line ≡ symbol_line s → ⊥
no_symbol h seen line e s r l = none_is-not_some s (sym e ∙ ap (symbol_of h seen) l ∙ symbol_of_line h seen s (right_good h seen s r))

symbol_none : (h : Header) (seen : List Symbol) (line : List ℕ) → ((s : Symbol) → SymbolRight h seen s → line ≡ symbol_line s → ⊥) → symbol_of h seen line
    ≡ none
symbol_none h seen line other = by (symbol_of h seen line) refl
  where
    by : (o : Option Symbol) → symbol_of h seen line ≡ o → symbol_of h seen line ≡ none
    by none f = f
    by (some s) f = let (g, l) = symbol_of-is h seen line s f in absurd (other s (good_right h seen s g) l)

no_comment : (line : List ℕ) → (line ≡ ascii "c\n" → ⊥) → is_comment line ≡ false
unfolding is_comment
no_comment line other = by (same_bytes line (ascii "c\n")) refl
  where
    by : (b : Bool) → same_bytes line (ascii "c\n") ≡ b → same_bytes line (ascii "c\n") ≡ false
    by true e = absurd (other (same_bytes_equal line (ascii "c\n") e))
    by false e = e

comment_no : (line : List ℕ) → is_comment line ≡ false → line ≡ ascii "c\n" → ⊥
unfolding is_comment
comment_no line e l = true≢false (sym (same_bytes_refl (ascii "c\n")) ∙ sym (ap (λ (b : List ℕ). same_bytes b (ascii "c\n")) l) ∙ e)

-- the first such line
one_symbol_more : (h : Header) (start : ℕ) (seen : List Symbol) (l : List ℕ) (ls : List (List ℕ)) (number place : ℕ) (s : Symbol)
    → SymbolRight h seen s → l ≡ symbol_line s → NoSymbol h (suc start) (seen ++ (s ∷ [])) ls number place → NoSymbol h start seen (l ∷ ls) number place
one_symbol_more h start seen l ls number place s r e k =
    record {
      before = s ∷ k.before;
      line = k.line;
      after = k.after;
      lines = λ x. e x ∷ k.lines x;
      right = (r, k.right);
      other = k.other;
      fault = subst (λ (t : List Symbol). (u : Symbol) → SymbolRight h t u → k.line ≡ symbol_line u → ⊥) (append_assoc seen (s ∷ []) k.before) k.fault;
      eight = k.eight;
      at = omega (arith, k.at);
    }

pub symbols_broken : (h : Header) (start : ℕ) (seen : List Symbol) (ls : List (List ℕ)) (number place : ℕ)
    → symbol_lines h start seen ls ≡ refused number place → NoSymbol h start seen ls number place
unfolding symbol_lines or_bad_symbol
symbols_broken h start seen [] number place e = absurd (taken_is-not_refused number place (record { symbols = seen; comment = none }) e)
symbols_broken h start seen (l ∷ ls) number place e = by (is_comment l) (symbol_of h seen l) refl refl
    (λ s. symbols_broken h (suc start) (seen ++ (s ∷ [])) ls number place)
  where
    by : (u : Bool) (o : Option Symbol) → is_comment l ≡ u → symbol_of h seen l ≡ o
        → ((s : Symbol) → symbol_lines h (suc start) (seen ++ (s ∷ [])) ls ≡ refused number place
        → NoSymbol h (suc start) (seen ++ (s ∷ [])) ls number place) → NoSymbol h start seen (l ∷ ls) number place
    by true o c f ih = absurd (taken_is-not_refused number place (record { symbols = seen; comment = some (flat_map (λ k. k) ls) }) (rw (c, symbol_lines) at e))
    by false none c f ih =
        let same : ◌≡◌ {A = Outcome Symbols} (refused bad_symbol start) (refused number place) = (rw (c, symbol_lines, f) at e) in
        record {
          before = [];
          line = l;
          after = ls;
          lines = refl;
          right = tt;
          other = comment_no l c;
          fault = subst (λ (t : List Symbol). (s : Symbol) → SymbolRight h t s → l ≡ symbol_line s → ⊥) (sym (append-nil seen)) (no_symbol h seen l f);
          eight = sym (refused_number bad_symbol start number place same);
          at = omega (arith, refused_place bad_symbol start number place same);
        }
    by false (some s) c f ih =
        let (g, l-is) = symbol_of-is h seen l s f in
        one_symbol_more h start seen l ls number place s (good_right h seen s g) l-is (ih s (rw (c, symbol_lines, f) at e))

pub broken_symbols : (h : Header) (start : ℕ) (seen : List Symbol) (ls : List (List ℕ)) (number place : ℕ) → NoSymbol h start seen ls number place
    → symbol_lines h start seen ls ≡ refused number place
unfolding symbol_lines or_bad_symbol
broken_symbols h start seen ls number place k = ap (symbol_lines h start seen) k.lines
    ∙ rw k.eight (go k.before start seen k.right k.fault k.at)
  where
    go : (ss : List Symbol) (s : ℕ) (known : List Symbol) → SymbolsRight h known ss
        → ((u : Symbol) → SymbolRight h (known ++ ss) u → k.line ≡ symbol_line u → ⊥) → place ≡ s + length ss
        → symbol_lines h s known (map symbol_line ss ++ (k.line ∷ k.after)) ≡ refused bad_symbol place
    go [] s known w f q =
        let here : s ≡ place = omega (arith, q) in
        let none_is : symbol_of h known k.line ≡ none = symbol_none h known k.line
        (subst (λ (t : List Symbol). (u : Symbol) → SymbolRight h t u → k.line ≡ symbol_line u → ⊥) (append-nil known) f) in
        rw (no_comment k.line k.other, symbol_lines, none_is) (λ x. refused bad_symbol (here x))
    go (t ∷ ss) s known w f q =
        rw (symbol_line-is_no_comment t, symbol_lines, symbol_of_line h known t (right_good h known t w.0))
        (go ss (suc s) (known ++ (t ∷ [])) w.1 (subst (λ (l : List Symbol). (u : Symbol) → SymbolRight h l u → k.line ≡ symbol_line u → ⊥)
        (sym (append_assoc known (t ∷ []) ss)) f) (omega (arith, q)))
