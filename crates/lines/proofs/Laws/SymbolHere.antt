-- A symbol from what the code finds in its line. Assumes nothing.
use Prim.Native.Nat.{ℕ, zero, suc, ◌+◌, ◌<◌, ◌≤◌}
use native.Mathlib.Omega.{arith}
use mathlib.Core.Bool.{Bool, true, false, cond, ◌&&◌, true≢false}
use mathlib.Core.List.{List, [], ◌∷◌}
use mathlib.Core.Option.{Option, none}
use mathlib.Core.Path.{◌≡◌, refl, sym, ap, ap₂, ◌∙◌, subst}
use lib.Dec.{eqb}
use lib.ListN.{length, get_or, drop}
use lib.Seq.{drop-drop, drop-cons}
use borrow.Author.Tests.{eq-eqb, eqb-true, lt-ltb, le-ltb}
use Rattle.bits.specs.Bytes.{starts_with}
use Rattle.circuit.specs.declared.numbers.Fault.{Fault}
use Rattle.circuit.specs.declared.numbers.Fault.TheVariants.{BadSymbol}
use Rattle.lines.specs.declared.symbol.Symbol.{Symbol as Value}
use Rattle.std.specs.Option.{ok_or}
use Rattle.std.specs.Prelude.{Option as Found, Some, None, Result, Ok, MatchOption, IsSomeAnd}
use Rattle.text.specs.Header.{Header}
use Rattle.text.specs.Number.{is, bad, number, run}
use Rattle.text.specs.Symbol.{Symbol, input_letter, prefix, is_name_byte, names, positions, symbol_at, symbol_of, is_comment, is_controllable_name}
use Rattle.lines.specs.Inner.Named.{Named, slot_of}
use Rattle.fields.specs.Inner.WellNamed.{well_named}
use Rattle.lines.specs.Inner.SymboledAs.{IsSymbol, SymbolAt, SymbolAs}
use Rattle.fields.proofs.Laws.Truth.{and_true}

-- each byte of a string passes
abbrev AllPass : (ℕ → Bool) → List ℕ → Type 0
AllPass p [] = Unit {0}
AllPass p (b ∷ bs) = (p b ≡ true) × AllPass p bs

-- a string of name bytes starts a name exactly if it starts what the name is taken from
starts-run : (p : ℕ → Bool) (ps t : List ℕ) → AllPass p ps → starts_with ps (run p t) ≡ starts_with ps t
unfolding starts_with run
starts-run p [] t h = refl
starts-run p (a ∷ ps) [] h = refl
starts-run p (a ∷ ps) (b ∷ t) h = by (p b) refl (eqb a b) refl (starts-run p ps t h.1)
  where
    by : (x : Bool) → p b ≡ x → (y : Bool) → eqb a b ≡ y → starts_with ps (run p t) ≡ starts_with ps t
        → starts_with (a ∷ ps) (cond x (b ∷ run p t) []) ≡ (eqb a b && starts_with ps t)
    by true e y f ih = ap (λ (z : Bool). eqb a b && z) ih
    by false e true f ih = absurd (true≢false (sym h.0 ∙ ap p (eqb-true a b f) ∙ e))
    by false e false f ih = rw f

controllable_bytes : AllPass is_name_byte prefix
unfolding is_name_byte
controllable_bytes = (refl, (refl, (refl, (refl, (refl, (refl, (refl, (refl, (refl, (refl, (refl, (refl, (refl, tt)))))))))))))

pub more_than_none : (n : ℕ) → eqb n 0 ≡ false → 0 < n
more_than_none zero e = absurd (true≢false e)
more_than_none (suc n) e = omega arith

-- a line begins with its letter
module _ (h : Header) (seen : List Symbol) (line : List ℕ) (nonempty : 0 < length line) where
  pub symbol_unnumbered : number (drop 1 line) ≡ bad → symbol_of h seen line ≡ none
  unfolding symbol_of
  symbol_unnumbered e = subst (λ (l : List ℕ). symbol_of h seen l ≡ none) (sym (drop-cons line 0 0 nonempty)) (rw (e, symbol_of))

  symbol_numbered : (position next : ℕ) → number (drop 1 line) ≡ is position (drop next line)
      → symbol_of h seen line ≡ symbol_at h seen (get_or line 0 0) position (drop next line)
  unfolding symbol_of
  symbol_numbered position next e = subst (λ (l : List ℕ). symbol_of h seen l ≡ symbol_at h seen (get_or line 0 0) position (drop next line))
      (sym (drop-cons line 0 0 nonempty)) (rw (e, symbol_of))

pub symbol_empty : (h : Header) (seen : List Symbol) (line : List ℕ) → length line ≡ 0 → symbol_of h seen line ≡ none
unfolding symbol_of
symbol_empty h seen [] e = refl
symbol_empty h seen (b ∷ l) e = absurd (omega arith)

-- by what stands behind its letter and number
pub symbol_told : (h : Header) (marks line : List ℕ) → is_comment line ≡ false → 0 < length line → (position next : ℕ)
    → number (drop 1 line) ≡ is position (drop next line) → (o : Found Value) → SymbolAt h marks (get_or line 0 0) position (drop next line) o
    → (p : Found (Found Value)) → MatchOption o (p ≡ None) (λ v. IsSomeAnd p (λ w. w ≡ Some v)) → (r : Result (Found Value) Fault) → r ≡ ok_or p BadSymbol
    → SymbolAs h marks line r
symbol_told h marks line bare nonempty position next n None at p e r f =
    subst (SymbolAs h marks line) (sym (f ∙ ap (λ (q : Found (Found Value)). ok_or q BadSymbol) e))
    (bare, refl, λ seen says. symbol_numbered h seen line nonempty position next n ∙ at seen says)
symbol_told h marks line bare nonempty position next n (Some v) at None e r f = absurd e
symbol_told h marks line bare nonempty position next n (Some v) at (Some w) e r f =
    subst (SymbolAs h marks line) (sym (f ∙ ap {B = Result (Found Value) Fault} Ok e))
    (bare, λ seen says. subst (λ (o : Option Symbol). IsSymbol h o v) (sym (symbol_numbered h seen line nonempty position next n)) (at seen says))

module _ (h : Header) (marks : List ℕ) (letter position : ℕ) (line : List ℕ) (next : ℕ) (seen : List Symbol) (says : Named h marks seen) where
  pub badly_named : well_named (drop next line) ≡ false → symbol_at h seen letter position (drop next line) ≡ none
  unfolding symbol_at well_named
  badly_named e = rw e

  pub position_above : well_named (drop next line) ≡ true → positions h letter ≤ position → symbol_at h seen letter position (drop next line) ≡ none
  unfolding symbol_at well_named
  position_above e l = rw (e, le-ltb position (positions h letter) l)

  module _ (well : well_named (drop next line) ≡ true) (below : position < positions h letter) where
    pub named-before : eqb (get_or marks (slot_of h letter position) 0) 1 ≡ true → symbol_at h seen letter position (drop next line) ≡ none
    unfolding symbol_at well_named Named
    named-before e = rw (well, lt-ltb position (positions h letter) below, sym (says letter position below) ∙ e)

    pub symbol_here : eqb (get_or marks (slot_of h letter position) 0) 1 ≡ false → (slot : ℕ) (flag : Bool) → slot ≡ slot_of h letter position
        → flag ≡ (eqb letter input_letter && starts_with prefix (drop (next + 1) line))
        → IsSymbol h (symbol_at h seen letter position (drop next line)) (record { slot = slot; position = position; controls = flag })
    unfolding symbol_at well_named Named names is_controllable_name
    symbol_here e slot flag s f =
        record {
          symbol = record { letter = letter; position = position; name = run is_name_byte (drop 1 (drop next line)) };
          is = rw (well, lt-ltb position (positions h letter) below, sym (says letter position below) ∙ e);
          marked = s;
          at = refl;
          below = below;
          flagged = f ∙ ap₂ (λ (x y : Bool). x && y) (sym (and_true (eqb letter input_letter))
              ∙ ap (λ (x : Bool). eqb letter input_letter && x) (sym (eq-eqb position position refl)))
              (sym (starts-run is_name_byte prefix (drop 1 (drop next line)) controllable_bytes ∙ ap (starts_with prefix) (drop-drop 1 next line)));
        }
