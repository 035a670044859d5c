-- What the symbol lines ask (01, "The file", rule 5), in the words of WellFormed: the symbols of a list are taken exactly if each has a letter,
-- a position below its count and a name, and none is named twice. Assumes nothing.
use Prim.Native.Nat.{ℕ, ◌+◌, ◌*◌, ◌^◌, ◌<◌, ◌≤◌}
use native.Mathlib.Omega.{arith}
use native.Mathlib.Nat.{not-suc-le-zero}
use mathlib.Core.Bool.{Bool, true, false, ◌&&◌}
use mathlib.Core.List.{List, [], ◌∷◌, ◌++◌}
use mathlib.Core.Path.{◌≡◌, refl}
use lib.Dec.{eqb, leb}
use lib.ListN.{length}
use borrow.Author.Tests.{eqb-true, eqb-false, eq-eqb, ne_eqb, le-leb, leb-true}
use Rattle.bits.proofs.Laws.Bytes.{both_true}
use Rattle.text.specs.InList.{All}
use Rattle.text.specs.Symbol.{Symbol, input_letter, latch_letter, output_letter, positions, is_name_byte, is_name, names}
use Rattle.text.specs.TextFile.{TextFile}
use Rattle.text.specs.WellFormed.{Placed, of_input, of_latch, of_output, SymbolLine, Apart}
use Rattle.text.proofs.Laws.Header.{header_for}
use Rattle.text.proofs.Laws.Lists.{all_weaker, Fresh, among_none, none_among}
use Rattle.text.proofs.Laws.Run.{Each}
use Rattle.text.proofs.Laws.Symbol.{AllGood}

placed_within : (f : TextFile) (s : Symbol) → Placed f s → s.position < positions (header_for f) s.letter
unfolding positions
placed_within f s (of_input e h) = rw e h
placed_within f s (of_latch e h) = rw e h
placed_within f s (of_output e h) = rw e h

within_placed : (f : TextFile) (s : Symbol) → s.position < positions (header_for f) s.letter → Placed f s
unfolding positions
within_placed f s h = by (eqb s.letter input_letter) (eqb s.letter latch_letter) (eqb s.letter output_letter) refl refl refl
  where
    by : (a b c : Bool) → eqb s.letter input_letter ≡ a → eqb s.letter latch_letter ≡ b → eqb s.letter output_letter ≡ c → Placed f s
    by true b c e g k = of_input (eqb-true _ _ e) (rw e at h)
    by false true c e g k = of_latch (eqb-true _ _ g) (rw (e, g) at h)
    by false false true e g k = of_output (eqb-true _ _ k) (rw (e, g, k) at h)
    by false false false e g k = absurd (not-suc-le-zero (rw (e, g, k) at h))

pub name_bytes : (t : List ℕ) → All (λ b. (32 ≤ b) × (b ≤ 126)) t → Each is_name_byte t
unfolding is_name_byte
name_bytes [] a = tt
name_bytes (b ∷ t) a = (rw (le-leb 32 b a.0.0, le-leb b 126 a.0.1), name_bytes t a.1)

pub bytes_name : (t : List ℕ) → Each is_name_byte t → All (λ b. (32 ≤ b) × (b ≤ 126)) t
unfolding is_name_byte
bytes_name [] a = tt
bytes_name (b ∷ t) a =
    let (low, high) = both_true (leb 32 b) (leb b 126) a.0 in
    ((leb-true 32 b low, leb-true b 126 high), bytes_name t a.1)

pub apart_fresh : (s t : Symbol) → Apart t s → names s.letter s.position t ≡ false
unfolding names
apart_fresh s t a = by (eqb t.letter s.letter) refl
  where
    by : (u : Bool) → eqb t.letter s.letter ≡ u → (eqb t.letter s.letter && eqb t.position s.position) ≡ false
    by true e = rw e (ne_eqb _ _ (a (eqb-true _ _ e)))
    by false e = rw e

pub fresh_apart : (s t : Symbol) → names s.letter s.position t ≡ false → Apart t s
unfolding names
fresh_apart s t e l p = eqb-false t.position s.position (rw (eq-eqb t.letter s.letter l) at e) p

position_digits : (f : TextFile) (s : Symbol) → length f.inputs + length f.latches + length f.gates ≤ f.largest → 2 * f.largest + 1 < 10 ^ 7
    → Placed f s → s.position < 10 ^ 7
position_digits f s r d (of_input e h) = omega arith
position_digits f s r d (of_latch e h) = omega arith
position_digits f s r d (of_output e h) = omega arith

pub symbols_good : (f : TextFile) (seen ss : List Symbol) → length f.inputs + length f.latches + length f.gates ≤ f.largest
    → 2 * f.largest + 1 < 10 ^ 7 → All (SymbolLine f) ss → Fresh Apart seen ss → AllGood (header_for f) seen ss
unfolding is_name
symbols_good f seen [] r d a p = tt
symbols_good f seen (s ∷ ss) r d a p = (
  record {
    digits = position_digits f s r d a.0.placed;
    bytes = name_bytes s.name a.0.bytes;
    long = rw (le-leb 1 (length s.name) a.0.some, le-leb (length s.name) 200 a.0.most);
    within = placed_within f s a.0.placed;
    fresh = none_among (names s.letter s.position) seen (all_weaker (λ t. Apart t s) (λ t. names s.letter s.position t ≡ false)
        (apart_fresh s) seen p.0);
  },
  symbols_good f (seen ++ (s ∷ [])) ss r d a.1 p.1,
)

pub good_symbols : (f : TextFile) (seen ss : List Symbol) → AllGood (header_for f) seen ss → All (SymbolLine f) ss × Fresh Apart seen ss
unfolding is_name
good_symbols f seen [] g = (tt, tt)
good_symbols f seen (s ∷ ss) g =
    let (a, b) = both_true (leb 1 (length s.name)) (leb (length s.name) 200) g.0.long in
    let (lines, apart) = good_symbols f (seen ++ (s ∷ [])) ss g.1 in (
      (
        record {
          placed = within_placed f s g.0.within;
          some = leb-true 1 (length s.name) a;
          most = leb-true (length s.name) 200 b;
          bytes = bytes_name s.name g.0.bytes;
        },
        lines,
      ),
      (
        all_weaker (λ t. names s.letter s.position t ≡ false) (λ t. Apart t s) (fresh_apart s) seen
            (among_none (names s.letter s.position) seen g.0.fresh),
        apart,
      ),
    )
