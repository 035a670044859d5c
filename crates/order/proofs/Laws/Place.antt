-- Where a gate stands in an order of evaluation (02, T-01): at its place stands the gate. Assumes nothing.
use Prim.Native.Nat.{ℕ, zero, suc, ◌<◌}
use native.Mathlib.Omega.{arith}
use native.Mathlib.Nat.{not-suc-le-zero, le_of_suc-le-suc}
use mathlib.Core.List.{List, [], ◌∷◌}
use mathlib.Core.Path.{◌≡◌, refl, ◌∙◌}
use lib.Dec.{eqb}
use lib.ListN.{length, get_or}
use borrow.Author.Tests.{eqb-true, eq-eqb}
use Rattle.below.proofs.Laws.Least.{least_holds, any_of, any-least}
use Rattle.order.specs.Ordered.{Ordered}
use Rattle.order.specs.Place.{place_in}

-- what stands in a list doesn't hang on what stands behind it
pub get_or_within : {A : Type 0} (l : List A) (i : ℕ) (d e : A) → i < length l → get_or l i d ≡ get_or l i e
get_or_within [] i d e h = absurd (not-suc-le-zero h)
get_or_within (x ∷ l) zero d e h = refl
get_or_within (x ∷ l) (suc i) d e h = get_or_within l i d e (le_of_suc-le-suc h)

module _ (uses : List ℕ) (n : ℕ) (order : List ℕ) (o : Ordered uses n order) (gate : ℕ) (h : gate < n) where
  found : place_in order gate < length order
  unfolding place_in
  found =
      let (k, below, is) = o.each gate h in
      let here : k < length order = omega (arith, below, o.long) in
      any-least (λ i. eqb (get_or order i 0) gate) (length order)
      (any_of (λ i. eqb (get_or order i 0) gate) (length order) k here (eq-eqb (get_or order k 0) gate (get_or_within order k 0 n here ∙ is)))

  pub place_below : place_in order gate < n
  place_below = omega (arith, found, o.long)

  pub gate_at-place : get_or order (place_in order gate) n ≡ gate
  unfolding place_in
  gate_at-place =
      get_or_within order (place_in order gate) n 0 found
      ∙ eqb-true (get_or order (place_in order gate) 0) gate (least_holds (λ i. eqb (get_or order i 0) gate) (length order) found)
