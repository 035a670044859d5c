-- The region is closed, and every closed set lies inside it. Assumes nothing.
use Prim.Native.Nat.{ℕ, zero, suc, ◌<◌}
use native.Mathlib.Omega.{arith}
use mathlib.Core.Bool.{true, false, not, true≢false}
use mathlib.Core.Path.{◌≡◌, refl, sym, ap, ◌∙◌}
use borrow.Author.Tests.{ltb-true, ltb-false, le-ltb, not-true, not-false}
use Rattle.game.specs.Game.{Game, Proper}
use Rattle.game.specs.Keeps.{Keeps, answered, safe}
use Rattle.game.specs.Rank.{not_ranked, defeated, ranks_after, rank, in_region}
use Rattle.game.specs.Region.{Closed, IsRegion}
use Rattle.game.proofs.Laws.Keeps.{answered-by, answers, safe_at, safe_of}
use Rattle.game.proofs.Laws.Rounds.{Rounded, kept, given, passed, rounded, not_ranked_now, Still, rounds_suffice}

-- a state of the region has rank 0, and one outside has another
pub region_rank : (g : Game) (s : ℕ) → in_region g s ≡ true → rank g s ≡ 0
unfolding in_region
region_rank g s e = omega (arith, ltb-false 0 (rank g s) (not-true _ e))

pub rank_region : (g : Game) (s : ℕ) → rank g s ≡ 0 → in_region g s ≡ true
unfolding in_region
rank_region g s e = ap not (le-ltb 0 (rank g s) (omega arith))

pub outside_ranked : (g : Game) (s : ℕ) → in_region g s ≡ false → 0 < rank g s
unfolding in_region
outside_ranked g s e = ltb-true 0 (rank g s) (not-false _ e)

-- the union of closed sets is closed
pub union_closed : (g : Game) (I : Type 0) (P : I → ℕ → Type 0) → ((i : I) → Closed g (P i)) → Closed g (λ s. (i : I) × P i s)
unfolding Closed Keeps
union_closed g I P closed s r h w l =
    let answer = closed w.0 s r h w.1 l in
    (answer.0, answer.1, (answer.2.0, (w.0, answer.2.1)))

module _ (g : Game) (proper : Proper g) where
  -- after the last round no state without a rank is defeated
  pub region_undefeated : (s : ℕ) → s < g.states → rank g s ≡ 0 → defeated g (ranks_after g g.states) g.states s ≡ false
  unfolding rank Still
  region_undefeated s h e = by (rounded g g.states s)
    where
      by : Rounded g g.states s → defeated g (ranks_after g g.states) g.states s ≡ false
      by (kept l f) = absurd (omega arith)
      by (given z d f) = absurd (omega (arith, rounds_suffice g proper s h))
      by (passed z d f) = d

  pub region_closed : Closed g (λ s. in_region g s ≡ true)
  unfolding Closed in_region rank Keeps defeated
  region_closed s r h e l =
      let still : safe g (not_ranked (ranks_after g g.states) g.states) s ≡ true = not-false _ (region_undefeated s h (region_rank g s e)) in
      let (k, below, keep) = answered-by g _ s r (safe_at g _ s r still l) in
      (k, below, (keep.0, sym (not_ranked_now g g.states (g.step s r k).next) ∙ keep.1))

  -- a state of a closed set never gets a rank
  pub closed_unranked : (P : ℕ → Type 0) → Closed g P → (n s : ℕ) → s < g.states → P s → ranks_after g n s ≡ 0
  unfolding ranks_after Closed Keeps defeated
  closed_unranked P closed zero s h p = refl
  closed_unranked P closed (suc n) s h p = by (rounded g n s) (λ t. closed_unranked P closed n t)
    where
      answer : ((t : ℕ) → t < g.states → P t → ranks_after g n t ≡ 0) → (r : ℕ) → r < g.readings → answered g (not_ranked (ranks_after g n) n) s r ≡ true
      answer ih r l =
          let (k, below, keep) = closed s r h p l in
          let next : ranks_after g n (g.step s r k).next ≡ 0 = ih _ (proper.leads s r k) keep.1 in
          answers g _ s r k below (keep.0, not_ranked_now g n _ ∙ ap not (le-ltb 0 (ranks_after g n (g.step s r k).next) (omega arith)))

      by : Rounded g n s → ((t : ℕ) → t < g.states → P t → ranks_after g n t ≡ 0) → ranks_after g (suc n) s ≡ 0
      by (kept l f) ih = absurd (omega (arith, ih s h p))
      by (given z d f) ih = absurd (true≢false (sym d ∙ ap not (safe_of g (not_ranked (ranks_after g n) n) s (answer ih))))
      by (passed z d f) ih = f

  pub closed_in_region : (P : ℕ → Type 0) → Closed g P → (s : ℕ) → s < g.states → P s → in_region g s ≡ true
  unfolding rank
  closed_in_region P closed s h p = rank_region g s (closed_unranked P closed g.states s h p)

  pub region_is_largest : IsRegion g (λ s. in_region g s ≡ true)
  region_is_largest = record { closed = region_closed; largest = closed_in_region }
