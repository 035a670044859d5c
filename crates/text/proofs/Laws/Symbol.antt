-- Symbol lines and the comment, written and read back (01, "The file", rules 5 and 6). Assumes nothing.
use Prim.Native.Nat.{ℕ, suc, ◌^◌, ◌<◌, ◌≤◌}
use native.Mathlib.Omega.{arith}
use mathlib.Core.Bool.{Bool, true, false, not, ◌&&◌}
use mathlib.Core.List.{List, [], ◌∷◌, ◌++◌, flat_map, append-nil, append_assoc}
use mathlib.Core.Option.{Option, none, some}
use mathlib.Core.Path.{◌≡◌, refl, sym, ap, ap₂, ◌∙◌}
use lib.Dec.{eqb, leb, ltb}
use lib.ListN.{length, get_or, drop, length-append}
use lib.Seq.{drop-append_seam}
use borrow.Author.Tests.{eqb-true, ne_eqb, leb-true, ltb-true, lt-ltb, not-true}
use Rattle.below.specs.Among.{among}
use Rattle.bits.specs.Bytes.{ascii, same_bytes}
use Rattle.bits.proofs.Laws.Bytes.{both_true, same_bytes_equal, same_bytes_refl}
use Rattle.circuit.specs.Outcome.{taken, ◌>>=◌}
use Rattle.text.specs.Header.{Header}
use Rattle.text.specs.Line.{before, lines}
use Rattle.text.specs.Number.{is_digit, run, Num, is, bad, number, decimal}
use Rattle.text.specs.Numbers.{bad_symbol}
use Rattle.text.specs.Symbol.{Symbol, positions, is_name_byte, is_name, names, symbol_at, symbol_of, is_comment, Symbols, or_bad_symbol, symbol_lines}
use Rattle.text.specs.Written.{symbol_line, comment_text}
use Rattle.text.proofs.Laws.Line.{inside, IsLine, lines-first, flat-lines, decimal-inside, starts, none_is-not_some}
use Rattle.text.proofs.Laws.Number.{number-decimal, number_is, NumberIs, decimal_some}
use Rattle.text.proofs.Laws.Outcome.{refused_is-not_taken}
use Rattle.text.proofs.Laws.Run.{Each, each_append, each_weaker, run_each, run_splits, run_append}

-- a symbol that may stand behind those seen
pub record Good (h : Header) (seen : List Symbol) (s : Symbol) : Type 0 where
  pub digits : s.position < 10 ^ 7
  pub bytes : Each is_name_byte s.name
  pub long : is_name s.name ≡ true
  pub within : s.position < positions h s.letter
  pub fresh : among (names s.letter s.position) seen ≡ false

abbrev pub AllGood : Header → List Symbol → List Symbol → Type 0
AllGood h seen [] = Unit {0}
AllGood h seen (s ∷ ss) = Good h seen s × AllGood h (seen ++ (s ∷ [])) ss

end_is_no_name : is_name_byte 10 ≡ false
unfolding is_name_byte
end_is_no_name = refl

space_is_no_digit : is_digit 32 ≡ false
unfolding is_digit
space_is_no_digit = refl

symbol_at_good : (h : Header) (seen : List Symbol) (s : Symbol) → Good h seen s → symbol_at h seen s.letter s.position (32 ∷ s.name ++ (10 ∷ [])) ≡ some s
unfolding symbol_at
symbol_at_good h seen s g =
    rw (
      run_append is_name_byte s.name (10 ∷ []) g.bytes end_is_no_name,
      drop-append_seam s.name (10 ∷ []),
      same_bytes_refl (10 ∷ []),
      g.long,
      lt-ltb s.position (positions h s.letter) g.within,
      g.fresh,
    )

pub symbol_of_line : (h : Header) (seen : List Symbol) (s : Symbol) → Good h seen s → symbol_of h seen (symbol_line s) ≡ some s
unfolding symbol_of symbol_line
symbol_of_line h seen s g =
    rw (number-decimal s.position (32 ∷ s.name ++ (10 ∷ [])) g.digits space_is_no_digit, symbol_of) (symbol_at_good h seen s g)

-- what a good symbol line holds
symbol_at-is : (h : Header) (seen : List Symbol) (letter position : ℕ) (text : List ℕ) (s : Symbol) → position < 10 ^ 7
    → symbol_at h seen letter position text ≡ some s → Good h seen s × (s.letter ≡ letter) × (s.position ≡ position) × (text ≡ 32 ∷ s.name ++ (10 ∷ []))
unfolding symbol_at
symbol_at-is h seen letter position text s d e = by test refl
  where
    name : List ℕ
    name = run is_name_byte (drop 1 text)

    first : Bool
    first = eqb (get_or text 0 0) 32

    ends : Bool
    ends = same_bytes (drop (suc (length name)) text) (10 ∷ [])

    below : Bool
    below = ltb position (positions h letter)

    other : Bool
    other = not (among (names letter position) seen)

    test : Bool
    test = first && ends && is_name name && below && other

    is_symbol : record { letter = letter; position = position; name = name } ≡ s → (first ≡ true) → (ends ≡ true) → (is_name name ≡ true)
        → (below ≡ true) → (other ≡ true) → Good h seen s × (s.letter ≡ letter) × (s.position ≡ position) × (text ≡ 32 ∷ s.name ++ (10 ∷ []))
    is_symbol same a b c f g =
        let spaced : text ≡ 32 ∷ drop 1 text = starts 32 text (eqb-true _ _ a) (omega arith) in
        let tail : drop (length name) (drop 1 text) ≡ 10 ∷ [] = ap {B = List ℕ} (λ t. drop (suc (length name)) t) (sym spaced) ∙ same_bytes_equal _ _ b in
        let whole : drop 1 text ≡ name ++ (10 ∷ []) = run_splits is_name_byte (drop 1 text) ∙ ap {B = List ℕ} (λ t. name ++ t) tail in
        rw (← same) (
          record { digits = d; bytes = run_each is_name_byte (drop 1 text); long = c; within = ltb-true _ _ f; fresh = not-true _ g },
          refl,
          refl,
          spaced ∙ ap {B = List ℕ} (λ t. 32 ∷ t) whole,
        )

    by : (u : Bool) → test ≡ u → Good h seen s × (s.letter ≡ letter) × (s.position ≡ position) × (text ≡ 32 ∷ s.name ++ (10 ∷ []))
    by true t =
        let (r4, g) = both_true (first && ends && is_name name && below) other t in
        let (r3, f) = both_true (first && ends && is_name name) below r4 in
        let (r2, c) = both_true (first && ends) (is_name name) r3 in
        let (a, b) = both_true first ends r2 in
        let k : some (record { letter = letter; position = position; name = name }) ≡ some s = (rw t at e) in
        is_symbol (cc) a b c f g
    by false t = absurd (none_is-not_some s (rw t at e))

pub symbol_of-is : (h : Header) (seen : List Symbol) (line : List ℕ) (s : Symbol) → symbol_of h seen line ≡ some s → Good h seen s × (line ≡ symbol_line s)
unfolding symbol_of symbol_line
symbol_of-is h seen [] s e = absurd (none_is-not_some s e)
symbol_of-is h seen (letter ∷ t) s e = by (number t) refl
  where
    by : (m : Num) → number t ≡ m → Good h seen s × (letter ∷ t ≡ symbol_line s)
    by bad f = absurd (none_is-not_some s (rw (f, symbol_of) at e))
    by (is position text) f =
        let i : NumberIs t position text = number_is t position text f in
        let (g, l, p, w) = symbol_at-is h seen letter position text s i.below (rw (f, symbol_of) at e) in
        (g, ap₂ {C = List ℕ} (λ x xs. x ∷ xs) (sym l) (i.text ∙ ap₂ {C = List ℕ} (λ n xs. decimal n ++ xs) (sym p) w))

-- a symbol line is a line, and none is the line `c`
letter_inside : (h : Header) (letter : ℕ) → 0 < positions h letter → inside letter ≡ true
unfolding positions
letter_inside h letter a = by (eqb letter 10) refl
  where
    by : (u : Bool) → eqb letter 10 ≡ u → inside letter ≡ true
    by true e = let ten : letter ≡ 10 = eqb-true letter 10 e in absurd (omega (arith, (rw ten at a)))
    by false e = rw e

name-inside : (b : ℕ) → is_name_byte b ≡ true → inside b ≡ true
unfolding is_name_byte
name-inside b e = let (low, high) = both_true (leb 32 b) (leb b 126) e in rw (ne_eqb b 10 (λ q. omega (arith, q, leb-true 32 b low)))

symbol_line-is_line : (h : Header) (seen : List Symbol) (s : Symbol) → Good h seen s → IsLine (symbol_line s)
unfolding symbol_line
symbol_line-is_line h seen s g =
    record {
      front = s.letter ∷ decimal s.position ++ (32 ∷ s.name);
      each = (
        letter_inside h s.letter (omega (arith, g.within)),
        each_append inside (decimal s.position) (32 ∷ s.name)
            (decimal-inside s.position) (refl, each_weaker is_name_byte inside name-inside s.name g.bytes),
      );
      whole = ap {B = List ℕ} (λ t. s.letter ∷ t) (sym (append_assoc (decimal s.position) (32 ∷ s.name) (10 ∷ [])));
    }

pub symbol_line-is_no_comment : (s : Symbol) → is_comment (symbol_line s) ≡ false
unfolding is_comment symbol_line
symbol_line-is_no_comment s = by (same_bytes (symbol_line s) (ascii "c\n")) refl
  where
    long : 4 ≤ length (symbol_line s)
    long = omega (arith, length-append (decimal s.position) (32 ∷ s.name ++ (10 ∷ [])), length-append s.name (10 ∷ []), decimal_some s.position)

    by : (u : Bool) → same_bytes (symbol_line s) (ascii "c\n") ≡ u → same_bytes (symbol_line s) (ascii "c\n") ≡ false
    by true e = absurd (omega (arith, long, ap length (same_bytes_equal (symbol_line s) (ascii "c\n") e)))
    by false e = e

-- what stands behind the gates is read back
pub symbol_lines_good : (h : Header) (ss : List Symbol) (place : ℕ) (seen : List Symbol) (comment : Option (List ℕ)) → AllGood h seen ss
    → symbol_lines h place seen (lines (flat_map symbol_line ss ++ comment_text comment)) ≡ taken (record { symbols = seen ++ ss; comment = comment })
unfolding symbol_lines lines before comment_text flat_map is_comment same_bytes or_bad_symbol
symbol_lines_good h [] place seen none g = λ x. taken (record { symbols = sym (append-nil seen) x; comment = none })
symbol_lines_good h [] place seen (some bytes) g = λ x. taken (record { symbols = sym (append-nil seen) x; comment = some (flat-lines bytes x) })
symbol_lines_good h (s ∷ ss) place seen comment g =
    let rest : List ℕ = flat_map symbol_line ss ++ comment_text comment in
    let first : lines (symbol_line s ++ flat_map symbol_line ss ++ comment_text comment) ≡ symbol_line s ∷ lines rest =
    ap lines (append_assoc (symbol_line s) (flat_map symbol_line ss) (comment_text comment))
    ∙ lines-first (symbol_line s) rest (symbol_line-is_line h seen s g.0) in
    rw (first, symbol_lines, symbol_line-is_no_comment s, symbol_lines, symbol_of_line h seen s g.0)
    (symbol_lines_good h ss (suc place) (seen ++ (s ∷ [])) comment g.1
    ∙ λ x. taken (record { symbols = append_assoc seen (s ∷ []) ss x; comment = comment }))

-- lines that were taken behind the gates
pub record SymbolsAre (h : Header) (seen : List Symbol) (ls : List (List ℕ)) (behind : Symbols) : Type 0 where
  pub symbols : List Symbol
  pub all : behind.symbols ≡ seen ++ symbols
  pub text : flat_map (λ l. l) ls ≡ flat_map symbol_line symbols ++ comment_text behind.comment
  pub good : AllGood h seen symbols

comment_are : (h : Header) (seen : List Symbol) (line : List ℕ) (rest : List (List ℕ)) (behind : Symbols) → is_comment line ≡ true
    → record { symbols = seen; comment = some (flat_map (λ l. l) rest) } ≡ behind → SymbolsAre h seen (line ∷ rest) behind
unfolding comment_text flat_map is_comment
comment_are h seen line rest behind c same =
    rw (← same)
    (record {
      symbols = [];
      all = sym (append-nil seen);
      text = ap {B = List ℕ} (λ l. l ++ flat_map (λ k. k) rest) (same_bytes_equal line (ascii "c\n") c);
      good = tt;
    })

one_symbol_more : (h : Header) (seen : List Symbol) (line : List ℕ) (rest : List (List ℕ)) (behind : Symbols) (s : Symbol) → Good h seen s
    → line ≡ symbol_line s → SymbolsAre h (seen ++ (s ∷ [])) rest behind → SymbolsAre h seen (line ∷ rest) behind
unfolding flat_map
one_symbol_more h seen line rest behind s g l a =
    record {
      symbols = s ∷ a.symbols;
      all = a.all ∙ append_assoc seen (s ∷ []) a.symbols;
      text = ap₂ {C = List ℕ} (λ x y. x ++ y) l a.text ∙ sym (append_assoc (symbol_line s) (flat_map symbol_line a.symbols) (comment_text behind.comment));
      good = (g, a.good);
    }

pub symbol_lines_are : (h : Header) (place : ℕ) (seen : List Symbol) (ls : List (List ℕ)) (behind : Symbols)
    → symbol_lines h place seen ls ≡ taken behind → SymbolsAre h seen ls behind
unfolding symbol_lines comment_text flat_map or_bad_symbol
symbol_lines_are h place seen [] behind e =
    let same : record { symbols = seen; comment = none } ≡ behind = (cc) in
    rw (← same) (record { symbols = []; all = sym (append-nil seen); text = refl; good = tt })
symbol_lines_are h place seen (line ∷ rest) behind e = by (is_comment line) refl (λ s. symbol_lines_are h (suc place) (seen ++ (s ∷ [])) rest behind)
  where
    Next : Type 0
    Next = (s : Symbol) → symbol_lines h (suc place) (seen ++ (s ∷ [])) rest ≡ taken behind → SymbolsAre h (seen ++ (s ∷ [])) rest behind

    with_symbol : (o : Option Symbol) → symbol_of h seen line ≡ o → (or_bad_symbol place o >>= λ s. symbol_lines h (suc place) (seen ++ (s ∷ [])) rest) ≡
        taken behind → Next → SymbolsAre h seen (line ∷ rest) behind
    with_symbol none f k ih = absurd (refused_is-not_taken bad_symbol place behind k)
    with_symbol (some s) f k ih = let (g, l) = symbol_of-is h seen line s f in one_symbol_more h seen line rest behind s g l (ih s k)

    by : (u : Bool) → is_comment line ≡ u → Next → SymbolsAre h seen (line ∷ rest) behind
    by true c ih =
        let k : taken (record { symbols = seen; comment = some (flat_map (λ l. l) rest) }) ≡ taken behind = (rw (c, symbol_lines) at e) in
        comment_are h seen line rest behind c (cc)
    by false c ih = with_symbol (symbol_of h seen line) refl (rw (c, symbol_lines) at e) ih
