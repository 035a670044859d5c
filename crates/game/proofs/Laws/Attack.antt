-- The attacks: each is the least reading that shows the rank; they break no rule of a certificate; and whoever made a table that breaks
-- none, the states that it ranks lie outside the region. Assumes nothing.
use Prim.Native.Nat.{ℕ, zero, suc, ◌-◌, ◌<◌, ◌≤◌}
use native.Mathlib.Omega.{arith}
use mathlib.Core.Bool.{Bool, true, false, not, ◌&&◌}
use mathlib.Core.Path.{◌≡◌, refl, sym, ap, ◌∙◌}
use lib.Dec.{ltb}
use borrow.Author.Tests.{ltb-true, lt-ltb, le-ltb, not-true, not-false}
use Rattle.below.specs.Least.{least, any}
use Rattle.below.proofs.Laws.Least.{any-least, any_holds, least-before}
use Rattle.bits.proofs.Laws.Bytes.{both_true}
use Rattle.game.specs.Attack.{attack, attack_broken}
use Rattle.game.specs.Game.{Game, Proper}
use Rattle.game.specs.Keeps.{Keeps, keeps}
use Rattle.game.specs.Rank.{not_ranked, defeats, rank, in_region}
use Rattle.game.specs.Region.{Closed}
use Rattle.game.proofs.Laws.Keeps.{unanswered, defeated-by}
use Rattle.game.proofs.Laws.Rank.{ranks_are_lem, ranked_is}
use Rattle.game.proofs.Laws.Region.{region_closed, region_rank, outside_ranked}

-- an attack that breaks no rule, of a state that is ranked: a reading under which no control leaves the states of smaller rank
pub unbroken_attack : (g : Game) (ranks attacks : ℕ → ℕ) (s : ℕ) → attack_broken g ranks attacks s ≡ false → 0 < ranks s → (attacks s < g.readings)
    × (defeats g ranks (ranks s - 1) s (attacks s) ≡ true)
unfolding attack_broken
unbroken_attack g ranks attacks s e h =
    let fine = both_true (ltb (attacks s) g.readings) (defeats g ranks (ranks s - 1) s (attacks s))
    (not-false _ (sym (ap (λ (b : Bool). b && not (ltb (attacks s) g.readings && defeats g ranks (ranks s - 1) s (attacks s)))
    (lt-ltb 0 (ranks s) h)) ∙ e)) in
    (ltb-true _ _ fine.0, fine.1)

-- under a reading that defeats, a control without error leads to a smaller rank
pub defeat_lowers : (g : Game) (ranks : ℕ → ℕ) (k s r c : ℕ) → defeats g ranks k s r ≡ true → c < g.controls → (g.step s r c).error ≡ false
    → (0 < ranks (g.step s r c).next) × (ranks (g.step s r c).next ≤ k)
unfolding defeats keeps
defeat_lowers g ranks k s r c e h f = ranked_is ranks k (g.step s r c).next
    (sym (ap (λ (b : Bool). not b && not_ranked ranks k (g.step s r c).next) f) ∙ unanswered g (not_ranked ranks k) s r c (not-true _ e) h)

module _ (g : Game) (proper : Proper g) where
  -- no state of a closed set has a rank in a table that breaks no rule
  pub unbroken_unranked : (ranks attacks : ℕ → ℕ) → ((s : ℕ) → s < g.states → attack_broken g ranks attacks s ≡ false) → (P : ℕ → Type 0) → Closed g P
      → (s : ℕ) → s < g.states → P s → ranks s ≡ 0
  unfolding Closed Keeps
  unbroken_unranked ranks attacks rule P closed s h p = by (ranks s) refl
    where
      falls : (n t : ℕ) → t < g.states → P t → 0 < ranks t → ranks t ≤ n → ⊥
      falls zero t l q low high = omega arith
      falls (suc n) t l q low high =
          let (reading, lost) = unbroken_attack g ranks attacks t (rule t l) low in
          let (c, below, keep) = closed t (attacks t) l q reading in
          let (still, less) = defeat_lowers g ranks (ranks t - 1) t (attacks t) c lost below keep.0 in
          falls n (g.step t (attacks t) c).next (proper.leads t (attacks t) c) keep.1 still (omega arith)

      by : (m : ℕ) → ranks s ≡ m → ranks s ≡ 0
      by zero e = e
      by (suc m) e = absurd (falls (suc m) s h p (omega arith) (omega arith))

  pub unbroken_outside : (ranks attacks : ℕ → ℕ) → ((s : ℕ) → s < g.states → attack_broken g ranks attacks s ≡ false) → (s : ℕ) → s < g.states
      → 0 < ranks s → in_region g s ≡ false
  unbroken_outside ranks attacks rule s h low = by (in_region g s) refl
    where
      by : (b : Bool) → in_region g s ≡ b → in_region g s ≡ false
      by true e = absurd (omega (arith, unbroken_unranked ranks attacks rule (λ t. in_region g t ≡ true) (region_closed g proper) s h e))
      by false e = e

  module _ (s : ℕ) (state : s < g.states) (outside : in_region g s ≡ false) where
    attack-is : attack g s ≡ least (defeats g (rank g) (rank g s - 1) s) g.readings
    unfolding attack
    attack-is = rw outside

    shown : any (defeats g (rank g) (rank g s - 1) s) g.readings ≡ true
    shown = sym (defeated-by g (rank g) (rank g s - 1) s) ∙ (ranks_are_lem g proper).fits s (rank g s - 1) state (omega (arith, outside_ranked g s outside))

    pub attack-is_reading : attack g s < g.readings
    attack-is_reading = rw attack-is (any-least (defeats g (rank g) (rank g s - 1) s) g.readings shown)

    pub attack-shows : defeats g (rank g) (rank g s - 1) s (attack g s) ≡ true
    attack-shows = rw attack-is (any_holds (defeats g (rank g) (rank g s - 1) s) g.readings shown)

    pub attack-least : (r : ℕ) → r < attack g s → defeats g (rank g) (rank g s - 1) s r ≡ false
    attack-least r h = least-before (defeats g (rank g) (rank g s - 1) s) g.readings r (rw attack-is at h)

  pub attack-inside : (s : ℕ) → in_region g s ≡ true → attack g s ≡ 0
  unfolding attack
  attack-inside s e = rw e

  -- our own ranks and attacks break no rule
  pub attacks_unbroken : (s : ℕ) → s < g.states → attack_broken g (rank g) (attack g) s ≡ false
  unfolding attack_broken
  attacks_unbroken s h = by (in_region g s) refl
    where
      by : (b : Bool) → in_region g s ≡ b
          → (ltb 0 (rank g s) && not (ltb (attack g s) g.readings && defeats g (rank g) (rank g s - 1) s (attack g s))) ≡ false
      by true e = rw (le-ltb 0 (rank g s) (omega (arith, region_rank g s e)))
      by false e = rw (lt-ltb 0 (rank g s) (outside_ranked g s e), lt-ltb (attack g s) g.readings (attack-is_reading s h e), attack-shows s h e)
