-- Lists of bytes compared, and a name behind a space, in the library's words. Assumes nothing.
use Prim.Native.Nat.{ℕ, suc}
use native.Mathlib.Numerals.{one-add}
use mathlib.Core.Bool.{Bool, ◌&&◌}
use mathlib.Core.List.{List, [], ◌∷◌}
use mathlib.Core.Path.{◌≡◌, refl, ap, ◌∙◌}
use lib.Dec.{eqb, leb}
use lib.ListN.{length, get_or, take, drop}
use lib.Seq.{drop-drop}
use lib.Pointwise.{pointwise}
use Rattle.bits.specs.Bytes.{starts_with}
use Rattle.bits.proofs.Laws.SameBytes.{pointwise_same}
use Rattle.text.specs.Number.{run}
use Rattle.text.specs.Symbol.{is_name_byte, is_name}
use Rattle.fields.specs.Inner.WellNamed.{well_named}
use Rattle.fields.proofs.Laws.Truth.{and_true, eqb_turned}

pub starts_pointwise : (ss ts : List ℕ) → starts_with ss ts ≡ pointwise eqb ss (take (length ss) ts)
unfolding starts_with
starts_pointwise [] ts = refl
starts_pointwise (s ∷ ss) [] = refl
starts_pointwise (s ∷ ss) (t ∷ ts) = ap (λ (b : Bool). eqb s t && b) (starts_pointwise ss ts)

-- the first byte is a space
space : (text : List ℕ) → pointwise eqb (32 ∷ []) (take 1 text) ≡ eqb (get_or text 0 0) 32
space [] = refl
space (b ∷ t) = and_true (eqb 32 b) ∙ eqb_turned 32 b

-- a name behind a space, and byte 10 behind it
pub well_named_is : (text name rest : List ℕ) (n : ℕ) (starts ends : Bool) → name ≡ drop 1 text → n ≡ length (run is_name_byte name) → rest ≡ drop n name
    → starts ≡ pointwise eqb (32 ∷ []) (take 1 text) → ends ≡ pointwise eqb rest (10 ∷ [])
    → well_named text ≡ (starts && ends && (leb 1 n && leb n 200))
unfolding well_named is_name
well_named_is text name rest n starts ends named long behind s e =
    rw (← named, ← long, s ∙ space text, e ∙ ap (λ (l : List ℕ). pointwise eqb l (10 ∷ [])) left ∙ pointwise_same (drop (suc n) text) (10 ∷ []))
  where
    left : rest ≡ drop (suc n) text
    left = behind ∙ ap (drop n) named ∙ drop-drop n 1 text ∙ ap (λ (k : ℕ). drop k text) (one-add n)
