-- The symbols that are printed (01, "The numbers", last paragraph): each is a symbol line as rule 5 asks, none names a position twice, and they
-- make the same inputs controllable. Assumes nothing.
use Prim.Native.Nat.{ℕ, zero, suc, ◌+◌, ◌<◌, ◌≤◌}
use native.Mathlib.Omega.{arith}
use native.Mathlib.Nat.{not-suc-le-zero, add-zero, le_of_suc-le-suc}
use mathlib.Core.Bool.{Bool, true, false, ◌&&◌}
use mathlib.Core.List.{List, [], ◌∷◌, ◌++◌}
use mathlib.Core.Path.{◌≡◌, refl, ap, ◌∙◌}
use lib.Dec.{eqb}
use lib.ListN.{length, get_or}
use borrow.Author.Tests.{eq-eqb, ne_eqb}
use Rattle.below.specs.Among.{among}
use Rattle.bits.proofs.Laws.Bytes.{starts_with_append}
use Rattle.circuit.specs.Circuit.{Input}
use Rattle.text.specs.InList.{All, Pairs}
use Rattle.text.specs.Number.{decimal}
use Rattle.text.specs.Printed.{printed_symbols}
use Rattle.text.specs.Symbol.{Symbol, input_letter, prefix, names, is_controllable_name, is_controllable}
use Rattle.text.specs.WellFormed.{Apart}
use Rattle.text.proofs.Laws.Lists.{all_weaker, none_among}

-- a printed symbol with its position from p up to n
pub record PrintedAt (p n : ℕ) (s : Symbol) : Type 0 where
  pub letter : s.letter ≡ input_letter
  pub least : p ≤ s.position
  pub most : s.position < n
  pub name : s.name ≡ prefix ++ decimal s.position

wider : (p n : ℕ) (s : Symbol) → PrintedAt (suc p) n s → PrintedAt p n s
wider p n s a = record { letter = a.letter; least = omega (arith, a.least); most = a.most; name = a.name }

abbrev symbol_at : ℕ → Symbol
symbol_at p = record { letter = input_letter; position = p; name = prefix ++ decimal p }

-- what one input adds
data Added (p : ℕ) (i : Input) (is : List Input) : Type 0 where
  named : i.controllable ≡ true → printed_symbols p (i ∷ is) ≡ symbol_at p ∷ printed_symbols (suc p) is → Added p i is
  unnamed : i.controllable ≡ false → printed_symbols p (i ∷ is) ≡ printed_symbols (suc p) is → Added p i is

added : (p : ℕ) (i : Input) (is : List Input) → Added p i is
unfolding printed_symbols
added p i is = by i.controllable refl
  where
    by : (u : Bool) → i.controllable ≡ u → Added p i is
    by true e = named e (rw e)
    by false e = unnamed e (rw e)

pub printed_at : (p n : ℕ) (is : List Input) → p + length is ≤ n → All (PrintedAt p n) (printed_symbols p is)
unfolding printed_symbols
printed_at p n [] h = tt
printed_at p n (i ∷ is) h = by (added p i is) (all_weaker (PrintedAt (suc p) n) (PrintedAt p n) (wider p n) (printed_symbols (suc p) is)
    (printed_at (suc p) n is (omega arith)))
  where
    by : Added p i is → All (PrintedAt p n) (printed_symbols (suc p) is) → All (PrintedAt p n) (printed_symbols p (i ∷ is))
    by (named e q) ih = rw q (record { letter = refl; least = omega arith; most = omega (arith, h); name = refl }, ih)
    by (unnamed e q) ih = rw q ih

-- positions only rise
pub printed_apart : (p : ℕ) (is : List Input) → Pairs Apart (printed_symbols p is)
unfolding printed_symbols
printed_apart p [] = tt
printed_apart p (i ∷ is) = by (added p i is) (printed_apart (suc p) is)
  where
    n : ℕ
    n = suc p + length is

    higher : (s : Symbol) → PrintedAt (suc p) n s → Apart (symbol_at p) s
    higher s a l e = omega (arith, a.least, e)

    by : Added p i is → Pairs Apart (printed_symbols (suc p) is) → Pairs Apart (printed_symbols p (i ∷ is))
    by (named e q) ih = rw q (
      all_weaker (PrintedAt (suc p) n) (Apart (symbol_at p)) higher (printed_symbols (suc p) is)
          (printed_at (suc p) n is (omega arith)),
      ih,
    )
    by (unnamed e q) ih = rw q ih

-- no more symbols than inputs
pub printed-count : (p : ℕ) (is : List Input) → length (printed_symbols p is) ≤ length is
unfolding printed_symbols
printed-count p [] = omega arith
printed-count p (i ∷ is) = by (added p i is) (printed-count (suc p) is)
  where
    by : Added p i is → length (printed_symbols (suc p) is) ≤ length is → length (printed_symbols p (i ∷ is)) ≤ suc (length is)
    by (named e q) ih = rw q (omega arith)
    by (unnamed e q) ih = rw q (omega arith)

-- which inputs they make controllable
abbrev test : ℕ → Symbol → Bool
test q s = names input_letter q s && is_controllable_name s.name

elsewhere : (q : ℕ) (s : Symbol) → (s.position ≡ q → ⊥) → test q s ≡ false
unfolding names
elsewhere q s n = by (eqb s.letter input_letter) refl
  where
    by : (u : Bool) → eqb s.letter input_letter ≡ u → test q s ≡ false
    by true e = rw (e, ne_eqb s.position q n)
    by false e = rw e

not-before : (q p : ℕ) (is : List Input) → q < p → among (test q) (printed_symbols p is) ≡ false
not-before q p is h = none_among (test q) (printed_symbols p is) (all_weaker (PrintedAt p (p + length is)) (λ s. test q s ≡ false)
    (λ s a. elsewhere q s (λ e. omega (arith, a.least, e, h))) (printed_symbols p is) (printed_at p (p + length is) is (omega arith)))

here : (p : ℕ) → test p (symbol_at p) ≡ true
unfolding names is_controllable_name
here p = rw (eq-eqb p p refl) (starts_with_append prefix (decimal p))

pub printed_controllable : (d : Input) (p : ℕ) (is : List Input) (i : ℕ) → i < length is
    → is_controllable (printed_symbols p is) (p + i) ≡ (get_or is i d).controllable
unfolding is_controllable among
printed_controllable d p [] i h = absurd (not-suc-le-zero h)
printed_controllable d p (x ∷ is) zero h = by (added p x is)
  where
    by : Added p x is → among (test (p + 0)) (printed_symbols p (x ∷ is)) ≡ x.controllable
    by (named e q) = rw (add-zero p, q, here p, e)
    by (unnamed e q) = rw (add-zero p, q, e) (not-before p (suc p) is (omega arith))
printed_controllable d p (x ∷ is) (suc i) h = by (added p x is) (printed_controllable d (suc p) is i (le_of_suc-le-suc h))
  where
    shift : p + suc i ≡ suc p + i
    shift = omega arith

    shifted : among (test (suc p + i)) (printed_symbols (suc p) is) ≡ (get_or is i d).controllable
        → among (test (p + suc i)) (printed_symbols (suc p) is) ≡ (get_or is i d).controllable
    shifted ih = ap (λ (n : ℕ). among (test n) (printed_symbols (suc p) is)) shift ∙ ih

    by : Added p x is → among (test (suc p + i)) (printed_symbols (suc p) is) ≡ (get_or is i d).controllable
        → among (test (p + suc i)) (printed_symbols p (x ∷ is)) ≡ (get_or is i d).controllable
    by (named e q) ih = rw (q, elsewhere (p + suc i) (symbol_at p) (λ k. omega (arith, k))) (shifted ih)
    by (unnamed e q) ih = rw q (shifted ih)
