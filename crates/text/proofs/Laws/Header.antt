-- The first line (01, "The file", rule 1): the header is taken exactly if it is the word and five numbers, and passes exactly if it is within
-- the limits. Assumes nothing.
use Prim.Native.Nat.{ℕ, ◌+◌, ◌^◌}
use native.Mathlib.Omega.{arith}
use mathlib.Core.Bool.{Bool, true, false, ◌&&◌}
use mathlib.Core.List.{List, [], ◌∷◌, ◌++◌, flat_map}
use mathlib.Core.Option.{Option, none, some}
use mathlib.Core.Path.{◌≡◌, refl, sym, ap, ◌∙◌, subst}
use lib.Dec.{eqb, leb}
use lib.ListN.{length, get_or, drop}
use borrow.Author.Tests.{le-leb, leb-true, eqb-true, eq-eqb}
use Rattle.bits.specs.Bytes.{starts_with}
use Rattle.bits.specs.Digits.{AllBelow}
use Rattle.bits.proofs.Laws.Bytes.{both_true, starts_with_splits}
use Rattle.circuit.specs.Limits.{Limits}
use Rattle.circuit.specs.Outcome.{taken}
use Rattle.text.specs.Headed.{row_of, Headed}
use Rattle.text.specs.Header.{Header, word, header_numbers, header_of, within_limits}
use Rattle.text.specs.Line.{lines}
use Rattle.text.specs.LineIs.{LineIs}
use Rattle.text.specs.Numbers.{bad_header}
use Rattle.text.specs.Read.{or_bad_header}
use Rattle.text.specs.TextFile.{TextFile}
use Rattle.text.specs.Within.{Within}
use Rattle.text.specs.Written.{number_line}
use Rattle.text.proofs.Laws.Line.{IsLine, lines-first, numbers_line, numbers-is, number_line-is_line, flat-lines, none_is-not_some}
use Rattle.text.proofs.Laws.Outcome.{refused_is-not_taken, taken_is}

-- the header of a file
abbrev pub header_for : TextFile → Header
header_for f =
    record {
      largest = f.largest;
      inputs = length f.inputs;
      latches = length f.latches;
      outputs = 1;
      gates = length f.gates;
    }

five : (fs : List ℕ) → length fs ≡ 5 → fs ≡ row_of (header_of fs)
unfolding header_of
five [] e = absurd (omega (arith, e))
five (a ∷ []) e = absurd (omega (arith, e))
five (a ∷ b ∷ []) e = absurd (omega (arith, e))
five (a ∷ b ∷ c ∷ []) e = absurd (omega (arith, e))
five (a ∷ b ∷ c ∷ d ∷ []) e = absurd (omega (arith, e))
five (a ∷ b ∷ c ∷ d ∷ g ∷ []) e = refl
five (a ∷ b ∷ c ∷ d ∷ g ∷ x ∷ xs) e = absurd (omega (arith, e))

pub header_is_line : (h : Header) → IsLine (word ++ number_line (row_of h))
header_is_line h =
    let l : IsLine (number_line (row_of h)) = number_line-is_line (row_of h) in
    record { front = word ++ l.front; each = (refl, (refl, (refl, (refl, l.each)))); whole = ap {B = List ℕ} (λ t. word ++ t) l.whole }

pub header_numbers_lem : (h : Header) → AllBelow (10 ^ 7) (row_of h) → header_numbers (word ++ number_line (row_of h)) ≡ some (row_of h)
unfolding header_numbers starts_with
header_numbers_lem h b = numbers_line h.largest (h.inputs ∷ h.latches ∷ h.outputs ∷ h.gates ∷ []) b

record FirstLine (line : List ℕ) (h : Header) : Type 0 where
  text : line ≡ word ++ number_line (row_of h)
  below : AllBelow (10 ^ 7) (row_of h)

first_line_lem : (line fs : List ℕ) → header_numbers line ≡ some fs → FirstLine line (header_of fs)
unfolding header_numbers
first_line_lem line fs e = by (starts_with word line) refl
  where
    by : (u : Bool) → starts_with word line ≡ u → FirstLine line (header_of fs)
    by true s =
        let i : LineIs 5 (drop 4 line) fs = numbers-is 4 (drop 4 line) fs (rw s at e) in
        let row : fs ≡ row_of (header_of fs) = five fs i.count in
        record {
          text = starts_with_splits word line s ∙ ap {B = List ℕ} (λ x. word ++ x) (i.text ∙ ap number_line row);
          below =
              subst (AllBelow (10 ^ 7)) row i.below;
        }
    by false s = absurd (none_is-not_some fs (rw s at e))

pub first-and-rest : (ls : List (List ℕ)) → flat_map (λ l. l) ls ≡ get_or ls 0 [] ++ flat_map (λ l. l) (drop 1 ls)
unfolding flat_map
first-and-rest [] = refl
first-and-rest (l ∷ ls) = refl

-- the header that is read is the one that stands there
pub read_headed : (bytes fs : List ℕ) → header_numbers (get_or (lines bytes) 0 []) ≡ some fs → Headed bytes (header_of fs)
read_headed bytes fs e =
    let l : FirstLine (get_or (lines bytes) 0 []) (header_of fs) = first_line_lem (get_or (lines bytes) 0 []) fs e in
    let rest : List ℕ = flat_map (λ x. x) (drop 1 (lines bytes)) in
    record { rest = rest; text = sym (flat-lines bytes) ∙ first-and-rest (lines bytes) ∙ ap {B = List ℕ} (λ x. x ++ rest) l.text; below = l.below }

pub headed_lines : (bytes : List ℕ) (h : Header) (t : Headed bytes h) → lines bytes ≡ (word ++ number_line (row_of h)) ∷ lines t.rest
headed_lines bytes h t = ap lines t.text ∙ lines-first (word ++ number_line (row_of h)) t.rest (header_is_line h)

pub headed_read : (bytes : List ℕ) (h : Header) → Headed bytes h → header_numbers (get_or (lines bytes) 0 []) ≡ some (row_of h)
headed_read bytes h t = ap (λ (ls : List (List ℕ)). header_numbers (get_or ls 0 [])) (headed_lines bytes h t) ∙ header_numbers_lem h t.below

pub header_taken : (bytes : List ℕ) (h : Header) → or_bad_header (header_numbers (get_or (lines bytes) 0 [])) ≡ taken h → Headed bytes h
unfolding or_bad_header
header_taken bytes h e = by (header_numbers (get_or (lines bytes) 0 [])) refl e
  where
    by : (o : Option (List ℕ)) → header_numbers (get_or (lines bytes) 0 []) ≡ o → or_bad_header o ≡ taken h → Headed bytes h
    by none f t = absurd (refused_is-not_taken bad_header 1 h t)
    by (some fs) f t = subst (Headed bytes) (taken_is (header_of fs) h t) (read_headed bytes fs f)

pub within_is : (limits : Limits) (h : Header) → within_limits limits h ≡ true → Within limits h
unfolding within_limits
within_is limits h e =
    let a : Bool = leb h.largest limits.variable in
    let b : Bool = leb h.inputs limits.inputs in
    let c : Bool = leb h.latches limits.latches in
    let d : Bool = eqb h.outputs limits.outputs in
    let (e4, room) = both_true (a && b && c && d) (leb (h.inputs + h.latches + h.gates) h.largest) e in
    let (e3, outputs) = both_true (a && b && c) d e4 in
    let (e2, latches) = both_true (a && b) c e3 in
    let (largest, inputs) = both_true a b e2 in
    record {
      largest = leb-true _ _ largest;
      inputs = leb-true _ _ inputs;
      latches = leb-true _ _ latches;
      outputs = eqb-true _ _ outputs;
      room =
          leb-true _ _ room;
    }

pub within_of : (limits : Limits) (h : Header) → Within limits h → within_limits limits h ≡ true
unfolding within_limits
within_of limits h w =
    rw (
      le-leb h.largest limits.variable w.largest,
      le-leb h.inputs limits.inputs w.inputs,
      le-leb h.latches limits.latches w.latches,
      eq-eqb h.outputs limits.outputs w.outputs,
      le-leb (h.inputs + h.latches + h.gates) h.largest w.room,
    )
