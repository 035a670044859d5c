-- What the answer says (02, T-01): in order exactly if no gate reaches itself, and then an order of evaluation stands there; else the lowest gate
-- that does. Assumes nothing.
use Prim.Native.Nat.{ℕ, ◌<◌, ◌≤◌}
use native.Mathlib.Omega.{arith}
use native.Mathlib.Decide.{dec_lt}
use mathlib.Core.Bool.{true}
use mathlib.Core.List.{List}
use mathlib.Core.Path.{◌≡◌, sym, ap, ◌∙◌, subst}
use borrow.Author.Tests.{lt-ltb, le-ltb}
use Rattle.std.specs.Prelude.{Ok, Err}
use Rattle.order.specs.Uses.{Uses}
use Rattle.order.specs.Reaches.{Reaches, at_once, through}
use Rattle.order.specs.Placing.{order_of}
use Rattle.order.specs.Ordered.{Ordered, is_ordered}
use Rattle.order.specs.Circle.{lowest_circle}
use Rattle.order.specs.Answer.{answer_of}
use Rattle.order.proofs.Laws.Meets.{uses_below, lowest_reaches, below_lowest}
use Rattle.order.proofs.Laws.NoCircle.{no_circle_ordered, placed_in_order}

module _ (uses : List ℕ) (n : ℕ) where
  circle_told : lowest_circle uses n < n → answer_of uses n ≡ Err (lowest_circle uses n)
  unfolding answer_of
  circle_told h = rw (lt-ltb (lowest_circle uses n) n h)

  order_told : ¬ (lowest_circle uses n < n) → answer_of uses n ≡ Ok tt
  unfolding answer_of
  order_told h = rw (le-ltb (lowest_circle uses n) n (omega arith))

  -- what it means
  pub in_order_means : answer_of uses n ≡ Ok tt → (i : ℕ) → i < n → Reaches uses n i i → ⊥
  in_order_means e i l r = elim (dec_lt (lowest_circle uses n) n) [ yes h ↦ absurd (apart h) | no h ↦ below_lowest uses n i (omega arith) r ]
    where
      apart : lowest_circle uses n < n → ⊥
      apart h = let told = circle_told h in let z : ◌≡◌ {A = ℕ} 0 1 = cc in omega arith

  pub means_in_order : ((i : ℕ) → i < n → Reaches uses n i i → ⊥) → answer_of uses n ≡ Ok tt
  means_in_order never = order_told (λ h. never (lowest_circle uses n) h (lowest_reaches uses n h))

  pub in_order_ordered : answer_of uses n ≡ Ok tt → Ordered uses n (order_of uses n)
  in_order_ordered e = no_circle_ordered uses n (in_order_means e)

  pub circle_means : (i : ℕ) → answer_of uses n ≡ Err i → (i < n) × Reaches uses n i i × ((j : ℕ) → j < i → Reaches uses n j j → ⊥)
  circle_means i e = elim (dec_lt (lowest_circle uses n) n) [ yes h ↦ lowest h | no h ↦ absurd (apart h) ]
    where
      apart : ¬ (lowest_circle uses n < n) → ⊥
      apart h = let told = order_told h in let z : ◌≡◌ {A = ℕ} 0 1 = cc in omega arith

      same : lowest_circle uses n < n → lowest_circle uses n ≡ i
      same h = let told = circle_told h in cc

      lowest : lowest_circle uses n < n → (i < n) × Reaches uses n i i × ((j : ℕ) → j < i → Reaches uses n j j → ⊥)
      lowest h = subst (λ (x : ℕ). (x < n) × Reaches uses n x x × ((j : ℕ) → j < x → Reaches uses n j j → ⊥)) (same h)
          (h, lowest_reaches uses n h, below_lowest uses n)

  pub means_circle : (i : ℕ) → i < n → Reaches uses n i i → ((j : ℕ) → j < i → Reaches uses n j j → ⊥) → answer_of uses n ≡ Err i
  means_circle i l r least = circle_told low ∙ ap Err same
    where
      most : lowest_circle uses n ≤ i
      most = elim (dec_lt i (lowest_circle uses n)) [ yes h ↦ absurd (below_lowest uses n i h r) | no h ↦ omega arith ]

      low : lowest_circle uses n < n
      low = omega (arith, most)

      same : lowest_circle uses n ≡ i
      same = elim (dec_lt (lowest_circle uses n) i) [ yes h ↦ absurd (least (lowest_circle uses n) h (lowest_reaches uses n low)) | no h ↦ omega (arith, most) ]

  -- gates that use lower ones only are in order
  module _ (lower : (i j : ℕ) → i < n → Uses uses n i j → j < i) where
    reached_lower : {i j : ℕ} → Reaches uses n i j → i < n → j < i
    reached_lower (at_once {i = i} {j = j} u) h = lower i j h u
    reached_lower (through {i = i} {j = j} u r) h = omega (arith, lower i j h u, reached_lower r (uses_below u))

    pub stands_in_order : answer_of uses n ≡ Ok tt
    stands_in_order = means_in_order (λ i h r. absurd (omega (arith, reached_lower r h)))

  -- what the code answers: the test of the placed gates, then the search
  pub tested_in_order : is_ordered uses n (order_of uses n) ≡ true → answer_of uses n ≡ Ok tt
  tested_in_order e = order_told (λ h. absurd (omega (arith, placed_in_order uses n e)))

  pub found_circle : (i : ℕ) → i < n → i ≡ lowest_circle uses n → Err i ≡ answer_of uses n
  found_circle i h e = ap Err e ∙ sym (circle_told (omega arith))

  pub found_none : n ≡ lowest_circle uses n → Ok tt ≡ answer_of uses n
  found_none e = sym (order_told (λ h. omega arith))
