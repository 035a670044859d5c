-- One call after the other: all are taken exactly if each is. Assumes nothing.
use Prim.Native.Nat.{ℕ}
use mathlib.Core.Bool.{Bool, true, false}
use mathlib.Core.Path.{◌≡◌, refl, subst}
use Rattle.circuit.specs.Outcome.{Outcome, taken, refused, ◌>>=◌, ◌>>◌, refuse_if}

abbrev IsRefused : {A : Type 0} → Outcome A → Type 0
IsRefused (taken a) = ⊥
IsRefused (refused number place) = Unit {0}

pub refused_is-not_taken : {A : Type 0} (number place : ℕ) (a : A) → refused number place ≡ taken a → ⊥
refused_is-not_taken number place a e = subst IsRefused e tt

module _ {A B : Type 0} where
  pub bind_taken : (o : Outcome A) (f : A → Outcome B) (b : B) → (o >>= f) ≡ taken b → (a : A) × (o ≡ taken a) × (f a ≡ taken b)
  bind_taken (taken a) f b e = (a, refl, e)
  bind_taken (refused number place) f b e = absurd (refused_is-not_taken number place b e)

-- a test that refused nothing, and what came after it
pub passed_test : {B : Type 0} (t : Bool) (number place : ℕ) (next : Outcome B) (b : B) → (refuse_if t number place >> next) ≡ taken b → (t ≡ false)
    × (next ≡ taken b)
unfolding refuse_if
passed_test true number place next b e = absurd (refused_is-not_taken number place b e)
passed_test false number place next b e = (refl, e)

-- a test that doesn't refuse
pub test_passes : {B : Type 0} (t : Bool) (number place : ℕ) (next : Outcome B) → t ≡ false → (refuse_if t number place >> next) ≡ next
unfolding refuse_if
test_passes t number place next e = rw e
