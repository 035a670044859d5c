-- What a call comes to (01, "The numbers"): something is taken, or the call is refused with a number and a place. Assumes nothing.
use Rattle.std.specs.Prelude.{ℕ, Bool, true, false}

pub data Outcome (A : Type 0) : Type 0 where
  taken : A → Outcome A
  refused : (number place : ℕ) → Outcome A

-- one after the other: the first refusal decides
infixl 20 ◌>>=◌ ◌>>◌
abbrev pub ◌>>=◌ : {A B : Type 0} → Outcome A → (A → Outcome B) → Outcome B
taken a >>= f = f a
refused number place >>= f = refused number place

abbrev pub ◌>>◌ : {A B : Type 0} → Outcome A → Outcome B → Outcome B
taken a >> next = next
refused number place >> next = refused number place

-- a number and its place, given exactly if a test says so
unfoldable pub refuse_if : Bool → ℕ → ℕ → Outcome (Unit {0})
refuse_if true number place = refused number place
refuse_if false number place = taken tt
