-- The ranks by rounds are those of 01, and no others are. Assumes nothing.
use Prim.Native.Nat.{ℕ, zero, suc, ◌<◌, ◌≤◌}
use native.Mathlib.Omega.{arith}
use native.Mathlib.Decide.{dec_lt}
use mathlib.Core.Bool.{Bool, true, false, not, ◌&&◌, true≢false}
use mathlib.Core.Path.{◌≡◌, refl, sym, ap, ◌∙◌}
use lib.Dec.{leb, ltb}
use borrow.Author.Tests.{leb-true, le-leb, lt-leb, lt-ltb, le-ltb, not-false}
use Rattle.bits.proofs.Laws.Bytes.{both_true}
use Rattle.game.specs.Game.{Game, Proper}
use Rattle.game.specs.Rank.{not_ranked, defeated, ranks_after, rank, AreRanks}
use Rattle.game.proofs.Laws.Region.{region_undefeated}
use Rattle.game.proofs.Laws.Rounds.{rank_most, Later, stays, none, after, later_than, born, undefeated, defeated_same}

-- of rank 1 to k, and not
pub ranked_is : (ranks : ℕ → ℕ) (k s : ℕ) → not_ranked ranks k s ≡ false → (0 < ranks s) × (ranks s ≤ k)
unfolding not_ranked
ranked_is ranks k s e =
    let (low, high) = both_true (leb 1 (ranks s)) (leb (ranks s) k) (not-false _ e) in
    (leb-true 1 (ranks s) low, leb-true (ranks s) k high)

pub is_ranked : (ranks : ℕ → ℕ) (k s : ℕ) → 0 < ranks s → ranks s ≤ k → not_ranked ranks k s ≡ false
unfolding not_ranked
is_ranked ranks k s h l = rw (le-leb 1 (ranks s) h, le-leb (ranks s) k l)

pub unranked_zero : (ranks : ℕ → ℕ) (k s : ℕ) → ranks s ≡ 0 → not_ranked ranks k s ≡ true
unfolding not_ranked
unranked_zero ranks k s e = rw e

pub unranked_above : (ranks : ℕ → ℕ) (k s : ℕ) → k < ranks s → not_ranked ranks k s ≡ true
unfolding not_ranked
unranked_above ranks k s h = rw (lt-leb (ranks s) k h) (ap not (and-false (leb 1 (ranks s))))
  where
    and-false : (b : Bool) → (b && false) ≡ false
    and-false true = refl
    and-false false = refl

-- a rank above 0 is above the bound, or the state is of rank 1 to the bound
pub above_unranked : (ranks : ℕ → ℕ) (k s x : ℕ) → x ≡ ranks s → 1 ≤ x → ltb k x ≡ not_ranked ranks k s
above_unranked ranks k s x e h = elim (dec_lt k x) [
  | yes l ↦ lt-ltb k x l ∙ sym (unranked_above ranks k s (omega arith))
  | no l ↦ le-ltb k x (omega arith) ∙ sym (is_ranked ranks k s (omega arith) (omega arith))
]

module _ (g : Game) where
  pub rank_at-most : (s : ℕ) → rank g s ≤ g.states
  unfolding rank
  rank_at-most s = rank_most g g.states s

  -- which states are of rank 1 to k is settled after k rounds
  pub settled : (k s : ℕ) → k ≤ g.states → not_ranked (ranks_after g k) k s ≡ not_ranked (rank g) k s
  unfolding rank not_ranked
  settled k s h = by (later_than g k g.states s h)
    where
      by : Later g k g.states s → not_ranked (ranks_after g k) k s ≡ not_ranked (λ t. ranks_after g g.states t) k s
      by (stays l e) = ap (λ (m : ℕ). not (leb 1 m && leb m k)) (sym e)
      by (none z e) = ap (λ (m : ℕ). not (leb 1 m && leb m k)) (z ∙ sym e)
      by (after z l) = unranked_zero (ranks_after g k) k s z ∙ sym (unranked_above (λ t. ranks_after g g.states t) k s l)

module _ (g : Game) (proper : Proper g) where
  settled_defeat : (k s : ℕ) → k ≤ g.states → defeated g (ranks_after g k) k s ≡ defeated g (rank g) k s
  settled_defeat k s h = defeated_same g proper (ranks_after g k) (rank g) k k s (λ t l. settled g k t h)

  -- past the last round no more is ranked
  beyond : (j s : ℕ) → g.states ≤ j → not_ranked (ranks_after g g.states) g.states s ≡ not_ranked (rank g) j s
  unfolding not_ranked rank
  beyond j s h = ap (λ (b : Bool). not (leb 1 (ranks_after g g.states s) && b))
      (le-leb (ranks_after g g.states s) g.states (rank_most g g.states s)
      ∙ sym (le-leb (ranks_after g g.states s) j (omega (arith, rank_most g g.states s))))

  pub ranks_are_lem : AreRanks g (rank g)
  unfolding rank
  ranks_are_lem = record { fits = fits; least = least; none = never }
    where
      fits : (s k : ℕ) → s < g.states → rank g s ≡ suc k → defeated g (rank g) k s ≡ true
      fits s k h e = sym (settled_defeat k s (omega (arith, rank_most g g.states s))) ∙ (born g g.states s k e).lost

      least : (s k j : ℕ) → s < g.states → rank g s ≡ suc k → j < k → defeated g (rank g) j s ≡ false
      least s k j h e l = sym (settled_defeat j s (omega (arith, rank_most g g.states s))) ∙ undefeated g k s j (born g g.states s k e).before l

      never : (s j : ℕ) → s < g.states → rank g s ≡ 0 → defeated g (rank g) j s ≡ false
      never s j h e = elim (dec_lt j g.states) [
        | yes l ↦ sym (settled_defeat j s (omega arith)) ∙ undefeated g g.states s j e l
        | no l ↦ sym (defeated_same g proper (ranks_after g g.states) (rank g) g.states j s (λ t m. beyond j t (omega arith)))
            ∙ region_undefeated g proper s h e
      ]

  -- one way of: two functions that are ranks rank the same states 1 to k
  module _ (ranks other : ℕ → ℕ) (these : AreRanks g ranks) (those : AreRanks g other) where
    carries : (k s : ℕ) → s < g.states → ((t : ℕ) → t < g.states → not_ranked ranks k t ≡ not_ranked other k t) → ranks s ≡ suc k → (0 < other s)
        × (other s ≤ suc k)
    carries k s h same e = by (other s) refl
      where
        lost : defeated g other k s ≡ true
        lost = sym (defeated_same g proper ranks other k k s same) ∙ these.fits s k h e

        by : (m : ℕ) → other s ≡ m → (0 < m) × (m ≤ suc k)
        by zero f = absurd (true≢false (sym lost ∙ those.none s k h f))
        by (suc j) f = elim (dec_lt k j) [ yes l ↦ absurd (true≢false (sym lost ∙ those.least s j k h f l)) | no l ↦ omega arith ]

  same_ranked : (ranks other : ℕ → ℕ) → AreRanks g ranks → AreRanks g other → (k s : ℕ) → s < g.states → not_ranked ranks k s ≡ not_ranked other k s
  same_ranked ranks other these those zero s h = none_at_zero ranks ∙ sym (none_at_zero other)
    where
      none_at_zero : (r : ℕ → ℕ) → not_ranked r 0 s ≡ true
      none_at_zero r = elim (dec_lt 0 (r s)) [ yes l ↦ unranked_above r 0 s l | no l ↦ unranked_zero r 0 s (omega arith) ]
  same_ranked ranks other these those (suc k) s h = by (not_ranked ranks (suc k) s) (not_ranked other (suc k) s) refl refl
      (same_ranked ranks other these those k)
    where
      over : (a b : ℕ → ℕ) → AreRanks g a → AreRanks g b → ((t : ℕ) → t < g.states → not_ranked a k t ≡ not_ranked b k t)
          → not_ranked a (suc k) s ≡ false → not_ranked b (suc k) s ≡ true → ⊥
      over a b these those ih e f =
          let (low, high) = ranked_is a (suc k) s e in
          let there : (0 < b s) × (b s ≤ suc k) =
          elim (dec_lt (a s) (suc k)) [
            | yes l ↦ let (p, q) = ranked_is b k s (sym (ih s h) ∙ is_ranked a k s low (omega arith)) in (p, omega arith)
            | no l ↦ carries a b these those k s h ih (omega arith)
          ] in
          true≢false (sym f ∙ is_ranked b (suc k) s there.0 there.1)

      by : (a b : Bool) → not_ranked ranks (suc k) s ≡ a → not_ranked other (suc k) s ≡ b
          → ((t : ℕ) → t < g.states → not_ranked ranks k t ≡ not_ranked other k t) → not_ranked ranks (suc k) s ≡ not_ranked other (suc k) s
      by true true e f ih = e ∙ sym f
      by true false e f ih = absurd (over other ranks those these (λ t l. sym (ih t l)) f e)
      by false true e f ih = absurd (over ranks other these those ih e f)
      by false false e f ih = e ∙ sym f

  -- 01's sentences on ranks determine them
  pub ranks_are_unique : (ranks other : ℕ → ℕ) → AreRanks g ranks → AreRanks g other → (s : ℕ) → s < g.states → ranks s ≡ other s
  ranks_are_unique ranks other these those s h = by (ranks s) (other s) refl refl
    where
      bound : (a b : ℕ → ℕ) → AreRanks g a → AreRanks g b → (m : ℕ) → a s ≡ suc m → (0 < b s) × (b s ≤ suc m)
      bound a b p q m e = ranked_is b (suc m) s (sym (same_ranked a b p q (suc m) s h) ∙ is_ranked a (suc m) s (omega arith) (omega arith))

      by : (m n : ℕ) → ranks s ≡ m → other s ≡ n → ranks s ≡ other s
      by zero zero e f = e ∙ sym f
      by zero (suc n) e f = absurd (omega (arith, bound other ranks those these n f))
      by (suc m) zero e f = absurd (omega (arith, bound ranks other these those m e))
      by (suc m) (suc n) e f = omega (arith, bound ranks other these those m e, bound other ranks those these n f)
