-- What a line behind the inputs uses, by its kind. Assumes nothing.
use Prim.Native.Nat.{ℕ, ◌+◌}
use native.Mathlib.Decide.{dec_lt, ℕ_discrete}
use native.Mathlib.Omega.{arith}
use mathlib.Core.Bool.{Bool, ◌||◌}
use mathlib.Core.Logic.{◌⊎◌, inl, inr}
use mathlib.Core.List.{List, [], ◌∷◌}
use mathlib.Core.Path.{◌≡◌, sym, ap₂, ◌∙◌}
use borrow.Author.Tests.{lt-ltb, le-ltb, eq-eqb, ne_eqb}
use Rattle.fields.specs.Inner.Marks.{unmarked}
use Rattle.fields.proofs.Laws.Truth.{or-false}
use Rattle.lines.specs.Inner.Kinds.{kind_at}
use Rattle.lines.specs.declared.kind.Kind.{Kind}
use Rattle.lines.specs.declared.kind.Kind.TheVariants.{Input, Latch, Output, Gate}
use Rattle.reader.specs.Inner.DefinedAs.{any_unmarked}
use Rattle.reader.specs.Inner.Rows.{cell, late_at}
use Rattle.text.specs.Header.{Header}

-- of three numbers; no line behind the inputs is an input's
abbrev pub used_by : Kind → (own a b : ℕ) → List ℕ
used_by Input own a b = a ∷ []
used_by Latch own a b = a ∷ []
used_by Output own a b = own ∷ []
used_by Gate own a b = a ∷ b ∷ []

pub used_one : (t : Kind) (own a b : ℕ) → (t ≡ Input) ⊎ (t ≡ Latch) → used_by t own a b ≡ a ∷ []
used_one t own a b (inl e) = rw e
used_one t own a b (inr e) = rw e

pub late_by : (h : Header) (rows : List (List ℕ)) (k : ℕ)
    → late_at h rows k ≡ used_by (kind_at h (h.inputs + k)) (cell rows (h.inputs + k) 0) (cell rows (h.inputs + k) 1) (cell rows (h.inputs + k) 2)
unfolding late_at kind_at
late_by h rows k = elim (dec_lt k h.latches) [
  | yes l ↦ rw (
    ne_eqb k h.latches (λ e. omega (arith, e, l)),
    lt-ltb k h.latches l,
    le-ltb (h.inputs + k) h.inputs (omega arith),
    lt-ltb (h.inputs + k) (h.inputs + h.latches) (omega arith),
  )
  | no n ↦ elim (ℕ_discrete k h.latches) [
    | yes e ↦ rw (
      eq-eqb k h.latches e,
      le-ltb (h.inputs + k) h.inputs (omega arith),
      le-ltb (h.inputs + k) (h.inputs + h.latches) (omega arith),
      eq-eqb (h.inputs + k) (h.inputs + h.latches) (omega arith),
    )
    | no d ↦ rw (
      ne_eqb k h.latches d,
      le-ltb k h.latches (omega arith),
      le-ltb (h.inputs + k) h.inputs (omega arith),
      le-ltb (h.inputs + k) (h.inputs + h.latches) (omega arith),
      ne_eqb (h.inputs + k) (h.inputs + h.latches) (λ e. d (omega (arith, e))),
    )
  ]
]

-- one literal, or two
pub one_unmarked : (marks : List ℕ) (a : ℕ) → unmarked marks a ≡ any_unmarked marks (a ∷ [])
unfolding any_unmarked
one_unmarked marks a = sym (or-false (unmarked marks a))

pub two_unmarked : (marks : List ℕ) (a b : ℕ) (x y : Bool) → x ≡ unmarked marks a → y ≡ unmarked marks b → (x || y) ≡ any_unmarked marks (a ∷ b ∷ [])
unfolding any_unmarked
two_unmarked marks a b x y e f = ap₂ {C = Bool} (λ s t. s || t) e (f ∙ one_unmarked marks b)
