-- Fuel for each gate that isn't marked yet is enough: more changes nothing. Assumes nothing.
use Prim.Native.Nat.{ℕ, ◌≤◌}
use mathlib.Core.Bool.{true≢false}
use mathlib.Core.List.{List}
use mathlib.Core.Path.{◌≡◌, sym, ap, ◌∙◌, subst}
use Rattle.order.specs.Uses.{first_of, second_of}
use Rattle.order.specs.Placing.{Placing, mark, place, visit}
use Rattle.order.specs.Inner.Unseen.{unseen}
use Rattle.order.proofs.Laws.Visit.{Visit, stays, goes, visit-is, visit_stays}

module _ {uses : List ℕ} {n : ℕ} where
  visit_only : {i : ℕ} {p q : Placing} → Visit uses n i p q → (s : Placing) → Visit uses n i p s → q ≡ s
  visit_only (stays e) s x = sym (visit_stays x e)
  visit_only (goes {i = i} {p = p} {q = q} {r = r} e v w) s x = by s x (λ a y. visit_only v a y) (λ a y. visit_only w a y)
    where
      by : (s : Placing) → Visit uses n i p s → ((a : Placing) → Visit uses n (first_of uses n i) (mark i p) a → q ≡ a)
          → ((a : Placing) → Visit uses n (second_of uses n i) q a → r ≡ a) → place i r ≡ s
      by s (stays f) one two = absurd (true≢false (sym e ∙ f))
      by s (goes {q = a} {r = b} f y z) one two = ap (place i) (two b (subst (λ (m : Placing). Visit uses n (second_of uses n i) m b) (sym (one a y)) z))

pub enough_fuel : (uses : List ℕ) (n f g i : ℕ) (p : Placing) → unseen p.marks ≤ f → unseen p.marks ≤ g → visit uses n f i p ≡ visit uses n g i p
enough_fuel uses n f g i p h l = visit_only (visit-is uses n f i p h) (visit uses n g i p) (visit-is uses n g i p l)
