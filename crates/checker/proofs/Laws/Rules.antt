-- What tables that pass must be: no reply, and no attack, breaks its rule; the reset states lie in the stored region; one of them has a
-- stored rank. Assumes nothing.
use Prim.Native.Nat.{ℕ, ◌+◌, ◌*◌, ◌/◌, ◌%◌, ◌<◌}
use native.Mathlib.Omega.{arith}
use mathlib.Core.Bool.{Bool, true, false, not, ◌&&◌, ◌||◌}
use mathlib.Core.List.{List}
use mathlib.Core.Path.{◌≡◌, refl, sym, ap, ap₂, ◌∙◌}
use borrow.Author.Tests.{ltb-false, eqb-false, not-false}
use lib.Arith.{digits_lt, digits_div, digits_mod}
use lib.Dec.{eqb}
use Rattle.below.specs.Least.{least}
use Rattle.below.proofs.Laws.Least.{least-before, any_none, every-fails}
use Rattle.circuit.specs.Circuit.{Circuit}
use Rattle.circuit.specs.Reset.{is_reset}
use Rattle.game.specs.Attack.{attack_broken}
use Rattle.game.specs.CircuitGame.{circuit_game}
use Rattle.game.specs.Reply.{reply_broken}
use Rattle.checker.specs.Rules.{reset_outside, reset_unranked, broken_reply, broken_attack}
use Rattle.checker.specs.StoredFor.{held_at, reply_at, rank_at, attack_at}
use Rattle.checker.proofs.Laws.Pass.{RepliesPass, AttacksPass}

-- the flat index of a state and a reading, taken apart again
flat : (p : ℕ → ℕ → Bool) (n s r : ℕ) → r < n → p ((s * n + r) / n) ((s * n + r) % n) ≡ p s r
flat p n s r h = ap₂ p (digits_div s h) (digits_mod s h)

module _ (c : Circuit) (region : List ℕ) (kind : ℕ) (table : List ℕ) (passes : RepliesPass c region kind table) where
  pub no_reply_broken :
      (s r : ℕ) → s < (circuit_game c).states → r < (circuit_game c).readings
      → reply_broken (circuit_game c) (held_at c region) (reply_at c kind table) s r ≡ false
  unfolding broken_reply
  no_reply_broken s r h l =
      let n = (circuit_game c).readings in
      let p = reply_broken (circuit_game c) (held_at c region) (reply_at c kind table) in
      let all = ltb-false (least (λ i. p (i / n) (i % n)) ((circuit_game c).states * n)) ((circuit_game c).states * n) passes.rule in
      sym (flat p n s r l)
      ∙ least-before (λ i. p (i / n) (i % n)) ((circuit_game c).states * n) (s * n + r)
      (omega (arith, all, digits_lt {q = s} {m = (circuit_game c).states} {r = r} {c = n} h l))

  pub reset_held : (s : ℕ) → s < (circuit_game c).states → is_reset c s ≡ true → held_at c region s ≡ true
  unfolding reset_outside
  reset_held s h e =
      not-false _
      (sym (ap (λ (b : Bool). b && not (held_at c region s)) e)
      ∙ any_none (λ t. is_reset c t && not (held_at c region t)) (circuit_game c).states s passes.reset h)

-- both parts of a disjunction that is false
neither : (a b : Bool) → (not a || b) ≡ false → (a ≡ true) × (b ≡ false)
neither true b e = (refl, e)
neither false b e = (sym e, absurd (true_is_false e))
  where
    true_is_false : true ≡ false → ⊥
    true_is_false d = let z : ◌≡◌ {A = ℕ} 0 1 = cc in omega arith

module _ (c : Circuit) (table : List ℕ) (passes : AttacksPass c table) where
  pub no_attack_broken : (s : ℕ) → s < (circuit_game c).states → attack_broken (circuit_game c) (rank_at c table) (attack_at c table) s ≡ false
  unfolding broken_attack
  no_attack_broken s h =
      let p = attack_broken (circuit_game c) (rank_at c table) (attack_at c table) in
      least-before p (circuit_game c).states s (omega (arith, ltb-false (least p (circuit_game c).states) (circuit_game c).states passes.rule))

  -- a reset state that has a rank
  pub record RankedReset : Type 0 where
    pub state : ℕ
    pub is : state < (circuit_game c).states
    pub reset : is_reset c state ≡ true
    pub ranked : 0 < rank_at c table state

  pub reset_ranked : RankedReset
  unfolding reset_unranked
  reset_ranked =
      let (s, h, e) = every-fails (λ s. not (is_reset c s) || eqb (rank_at c table s) 0) (circuit_game c).states passes.reset in
      let (reset, ranked) = neither (is_reset c s) (eqb (rank_at c table s) 0) e in
      let other = eqb-false (rank_at c table s) 0 ranked in
      record { state = s; is = h; reset = reset; ranked = omega arith }
