-- The numbers of a line, field by field from a place on. Assumes nothing.
use Prim.Native.Nat.{ℕ, ◌+◌, ◌<◌}
use native.Mathlib.Decide.{dec_lt}
use native.Mathlib.Omega.{arith}
use native.Mathlib.Nat.{add-zero}
use mathlib.Core.List.{List, [], ◌∷◌}
use mathlib.Core.Option.{none, some}
use mathlib.Core.Path.{◌≡◌, refl, ap, ◌∙◌}
use lib.ListN.{length, get_or, drop, drop_of_length-le, get_or-eq_default}
use lib.Seq.{drop-drop, get_or-drop, drop-cons}
use lib.Dec.{eqb}
use mathlib.Core.Bool.{Bool, true, false}
use borrow.Author.Tests.{eq-eqb, ne_eqb, eqb-true, eqb-false}
use Rattle.std.specs.Bool.{then_some}
use Rattle.std.specs.Prelude.{None}
use Rattle.fields.specs.Inner.RowAt.{FieldAt, MoreAt, LastAt, NoneAt}
use Rattle.text.specs.Line.{fields, prepend}
use Rattle.text.specs.Number.{is, bad, number}

-- no more fields: the end of the line, or something behind it
fields_end : (s : List ℕ) (at : ℕ) → at ≡ length s → fields [] (drop at s) ≡ some []
unfolding fields
fields_end s at e = rw (drop_of_length-le s {i = at} (omega arith))

fields_more : (s : List ℕ) (at : ℕ) → at < length s → fields [] (drop at s) ≡ none
unfolding fields
fields_more s at h = rw (drop-cons s at 0 h)

module _ (s : List ℕ) (at : ℕ) where
  pub field_bad : number (drop at s) ≡ bad → NoneAt s at
  unfolding fields
  field_bad e = record { more = λ ps. rw (e, fields); last = rw (e, fields) }

  module _ (v next : ℕ) (here : number (drop at s) ≡ is v (drop next s)) where
    head_is : get_or (drop next s) 0 0 ≡ get_or s next 0
    head_is = get_or-drop next s 0 0 ∙ ap (λ (i : ℕ). get_or s i 0) (add-zero next)

    other : (p : ℕ) → (get_or s next 0 ≡ p → ⊥) → (ps : List ℕ) → fields (p ∷ ps) (drop at s) ≡ none
    unfolding fields
    other p e ps = rw (here, fields, head_is, ne_eqb (get_or s next 0) p e)

    same : (p : ℕ) → get_or s next 0 ≡ p → (ps : List ℕ) → fields (p ∷ ps) (drop at s) ≡ prepend v (fields ps (drop (next + 1) s))
    unfolding fields
    same p e ps = rw (here, fields, head_is, eq-eqb (get_or s next 0) p e) (ap (λ (t : List ℕ). prepend v (fields ps t)) (drop-drop 1 next s))

    -- a byte that isn't 0 stands inside the text
    pub inside : (p : ℕ) → get_or s next 0 ≡ p → 0 < p → next < length s
    inside p e h = elim (dec_lt next (length s)) [ yes l ↦ l | no l ↦ absurd (omega (arith, get_or-eq_default s 0 {n = next} (omega arith))) ]

    pub field_more : get_or s next 0 ≡ 32 → MoreAt s at v (next + 1)
    field_more e = record { more = same 32 e; last = other 10 (λ f. omega arith) [] }

    field_last : get_or s next 0 ≡ 10 → next + 1 ≡ length s → LastAt s at v
    unfolding prepend
    field_last e end = record { more = other 32 (λ f. omega arith); last = same 10 e [] ∙ ap (prepend v) (fields_end s (next + 1) end) }

    field-not_last : get_or s next 0 ≡ 10 → (next + 1 ≡ length s → ⊥) → NoneAt s at
    unfolding prepend
    field-not_last e end = record {
      more = other 32 (λ f. omega arith);
      last = same 10 e []
          ∙ ap (prepend v) (fields_more s (next + 1) (omega (arith, inside 10 e (omega arith))));
    }

    -- byte 10 ends the line, or something stands behind it
    pub field-ended : get_or s next 0 ≡ 10 → FieldAt s at (then_some (eqb (next + 1) (length s)) (record { value = v; next = None }))
    field-ended e = by (eqb (next + 1) (length s)) refl
      where
        by : (b : Bool) → eqb (next + 1) (length s) ≡ b → FieldAt s at (then_some b (record { value = v; next = None }))
        by true t = field_last e (eqb-true (next + 1) (length s) t)
        by false f = field-not_last e (eqb-false (next + 1) (length s) f)

    pub field-other : (get_or s next 0 ≡ 32 → ⊥) → (get_or s next 0 ≡ 10 → ⊥) → NoneAt s at
    field-other e f = record { more = other 32 e; last = other 10 f [] }
