-- What holds of membership. Assumes nothing.
use Prim.Native.Nat.{ℕ}
use mathlib.Core.Bool.{Bool, true, false, ◌||◌}
use mathlib.Core.List.{List, [], ◌∷◌, ◌++◌}
use mathlib.Core.Path.{◌≡◌, refl}
use lib.Dec.{eqb}
use Rattle.below.specs.Among.{among, member}

or_assoc : (a b c : Bool) → (a || (b || c)) ≡ ((a || b) || c)
or_assoc true b c = refl
or_assoc false b c = refl

or-false : (a : Bool) → (a || false) ≡ a
or-false true = refl
or-false false = refl

module _ {ℓ} {A : Type ℓ} where
  -- one more element at the end
  pub among_snoc : (p : A → Bool) (xs : List A) (x : A) → among p (xs ++ (x ∷ [])) ≡ (among p xs || p x)
  unfolding among
  among_snoc p [] x = or-false (p x)
  among_snoc p (y ∷ ys) x = rw (among_snoc p ys x, or_assoc (p y) (among p ys) (p x))

pub member_snoc : (v : ℕ) (vs : List ℕ) (w : ℕ) → member v (vs ++ (w ∷ [])) ≡ (member v vs || eqb v w)
unfolding member
member_snoc v vs w = among_snoc (eqb v) vs w
