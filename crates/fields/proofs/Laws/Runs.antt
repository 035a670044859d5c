-- The run that a text begins with, and its first line, in the library's words: how many bytes pass, and where byte 10 stands. Assumes nothing.
use Prim.Native.Nat.{ℕ, suc, ◌+◌, min}
use native.Mathlib.Numerals.{one-add}
use native.Mathlib.Omega.{arith}
use mathlib.Core.Bool.{Bool, true, false, cond, not}
use mathlib.Core.List.{List, [], ◌∷◌}
use mathlib.Core.Path.{◌≡◌, refl, sym, ap, ◌∙◌}
use borrow.Author.Tests.{ltb-true, ltb-false}
use lib.Dec.{eqb, ltb}
use lib.ListN.{length, take}
use Rattle.std.specs.Prelude.{Option, Some, None}
use Rattle.std.specs.Char.{is_ascii_digit}
use Rattle.std.specs.List.{prefix_len, position_or_len}
use Rattle.text.specs.Line.{first_line}
use Rattle.text.specs.Number.{is_digit, run}
use Rattle.fields.proofs.Laws.Position.{first_line_cons, first_line_nil}

pub run_taken : (p : ℕ → Bool) (t : List ℕ) → take (prefix_len p t) t ≡ run p t
unfolding run
run_taken p [] = refl
run_taken p (b ∷ t) = by (p b) (run_taken p t)
  where
    by : (e : Bool) → take (prefix_len p t) t ≡ run p t → take (cond e (1 + prefix_len p t) 0) (b ∷ t) ≡ cond e (b ∷ run p t) []
    by true ih = rw one-add (ap {B = List ℕ} (λ l. b ∷ l) ih)
    by false ih = refl

pub ascii_digit : (b : ℕ) → is_ascii_digit b ≡ is_digit b
unfolding is_digit
ascii_digit b = refl

-- a line ends behind its byte 10, or where the text does
abbrev newline : List ℕ → ℕ
newline t = position_or_len (λ b. eqb b 10) t

length_first_line : (t : List ℕ) → length (first_line t) ≡ min (newline t + 1) (length t)
length_first_line [] = rw first_line_nil
length_first_line (b ∷ t) = rw first_line_cons (by (eqb b 10) (length_first_line t))
  where
    by : (e : Bool) → length (first_line t) ≡ min (newline t + 1) (length t)
        → suc (length (cond e [] (first_line t))) ≡ min (cond (not e) (1 + newline t) 0 + 1) (suc (length t))
    by true ih = omega arith
    by false ih = omega arith

-- where byte 10 is found, and where it isn't
module _ (t : List ℕ) (r : Option ℕ) (e : r ≡ cond (ltb (newline t) (length t)) (Some (newline t)) None) where
  pub line_found : (i : ℕ) → r ≡ Some i → length (first_line t) ≡ i + 1
  line_found i f = by (ltb (newline t) (length t)) refl (sym e ∙ f)
    where
      by : (b : Bool) → ltb (newline t) (length t) ≡ b → cond b (Some (newline t)) None ≡ Some i → length (first_line t) ≡ i + 1
      by true q g = let here : newline t ≡ i = cc in omega (arith, length_first_line t, ltb-true _ _ q)
      by false q g = cc

  pub line_open : r ≡ None → length (first_line t) ≡ length t
  line_open f = by (ltb (newline t) (length t)) refl (sym e ∙ f)
    where
      by : (b : Bool) → ltb (newline t) (length t) ≡ b → ◌≡◌ {A = Option ℕ} (cond b (Some (newline t)) None) None → length (first_line t) ≡ length t
      by true q g = cc
      by false q g = omega (arith, length_first_line t, ltb-false _ _ q)
