-- One call after the other: all are taken exactly if each is, and a refusal is that of the first that refuses. Assumes nothing.
use Prim.Native.Nat.{ℕ}
use mathlib.Core.Bool.{Bool, true, false}
use mathlib.Core.Logic.{◌⊎◌, inl, inr}
use mathlib.Core.Path.{◌≡◌, refl, sym, subst}
use Rattle.circuit.specs.Outcome.{Outcome, taken, refused, ◌>>=◌, ◌>>◌, refuse_if}

abbrev IsRefused : {A : Type 0} → Outcome A → Type 0
IsRefused (taken a) = ⊥
IsRefused (refused number place) = Unit {0}

pub refused_is-not_taken : {A : Type 0} (number place : ℕ) (a : A) → refused number place ≡ taken a → ⊥
refused_is-not_taken number place a e = subst IsRefused e tt

pub taken_is-not_refused : {A : Type 0} (number place : ℕ) (a : A) → taken a ≡ refused number place → ⊥
taken_is-not_refused number place a e = subst IsRefused (sym e) tt

module _ {A B : Type 0} where
  pub bind_taken : (o : Outcome A) (f : A → Outcome B) (b : B) → (o >>= f) ≡ taken b → (a : A) × (o ≡ taken a) × (f a ≡ taken b)
  bind_taken (taken a) f b e = (a, refl, e)
  bind_taken (refused number place) f b e = absurd (refused_is-not_taken number place b e)

  pub then_taken : (o : Outcome A) (next : Outcome B) (b : B) → (o >> next) ≡ taken b → (a : A) × (o ≡ taken a) × (next ≡ taken b)
  then_taken (taken a) next b e = (a, refl, e)
  then_taken (refused number place) next b e = absurd (refused_is-not_taken number place b e)

pub refuse_none : (t : Bool) (number place : ℕ) (u : Unit {0}) → refuse_if t number place ≡ taken u → t ≡ false
unfolding refuse_if
refuse_none true number place u e = absurd (refused_is-not_taken number place u e)
refuse_none false number place u e = refl

pub taken_is : {A : Type 0} (a b : A) → taken a ≡ taken b → a ≡ b
taken_is a b e = cc

-- number and place of a refusal
pub refused_number : {A : Type 0} (number place m q : ℕ) → ◌≡◌ {A = Outcome A} (refused number place) (refused m q) → number ≡ m
refused_number number place m q e = cc

pub refused_place : {A : Type 0} (number place m q : ℕ) → ◌≡◌ {A = Outcome A} (refused number place) (refused m q) → place ≡ q
refused_place number place m q e = cc

-- the same refusal of another kind of call
pub moved : {A B : Type 0} (number place m q : ℕ) → ◌≡◌ {A = Outcome A} (refused number place) (refused m q)
    → ◌≡◌ {A = Outcome B} (refused number place) (refused m q)
moved number place m q e = λ x. refused (refused_number number place m q e x) (refused_place number place m q e x)

module _ {A B : Type 0} where
  pub bind_refused : (o : Outcome A) (f : A → Outcome B) (number place : ℕ) → (o >>= f) ≡ refused number place → (o ≡ refused number place)
      ⊎ ((a : A) × (o ≡ taken a) × (f a ≡ refused number place))
  bind_refused (taken a) f number place e = inr (a, refl, e)
  bind_refused (refused m q) f number place e = inl (moved m q number place e)

  pub then_refused : (o : Outcome A) (next : Outcome B) (number place : ℕ) → (o >> next) ≡ refused number place → (o ≡ refused number place)
      ⊎ ((a : A) × (o ≡ taken a) × (next ≡ refused number place))
  then_refused (taken a) next number place e = inr (a, refl, e)
  then_refused (refused m q) next number place e = inl (moved m q number place e)
