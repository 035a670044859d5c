-- A test that says a statement, where it fails. Assumes nothing.
use mathlib.Core.Bool.{Bool, true, false, true≢false}
use mathlib.Core.Logic.{◌↔◌}
use mathlib.Core.Path.{◌≡◌, refl, sym, ◌∙◌}

module _ {P : Type 0} where
  pub test-fails : (t : Bool) → (t ≡ true) ↔ P → t ≡ false → P → ⊥
  test-fails t says e p = true≢false (sym (says.1 p) ∙ e)

  pub fails-test : (t : Bool) → (t ≡ true) ↔ P → (P → ⊥) → t ≡ false
  fails-test true says other = absurd (other (says.0 refl))
  fails-test false says other = refl
