-- True and false beside another truth value, and a test of equality turned round. Assumes nothing.
use Prim.Native.Nat.{ℕ}
use native.Mathlib.Decide.{ℕ_discrete}
use mathlib.Core.Bool.{Bool, true, false, ◌&&◌, ◌||◌}
use mathlib.Core.Path.{◌≡◌, refl, sym, ◌∙◌}
use lib.Dec.{eqb}
use borrow.Author.Tests.{eq-eqb, ne_eqb}

pub or-true : (b : Bool) → (b || true) ≡ true
or-true true = refl
or-true false = refl

pub or-false : (b : Bool) → (b || false) ≡ b
or-false true = refl
or-false false = refl

pub and_true : (b : Bool) → (b && true) ≡ b
and_true true = refl
and_true false = refl

pub and-false : (b : Bool) → (b && false) ≡ false
and-false true = refl
and-false false = refl

pub eqb_turned : (i j : ℕ) → eqb i j ≡ eqb j i
eqb_turned i j = elim (ℕ_discrete i j) [ yes e ↦ eq-eqb i j e ∙ sym (eq-eqb j i (sym e)) | no d ↦ ne_eqb i j d ∙ sym (ne_eqb j i (λ e. d (sym e))) ]
