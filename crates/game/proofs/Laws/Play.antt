-- Plays: a reply table that breaks no rule holds for every finite run of readings; against an attack table that breaks none every strategy
-- meets the error no later than the step given by the rank. Whoever made the table. Assumes nothing.
use Prim.Native.Nat.{ℕ, zero, suc, ◌-◌, ◌<◌, ◌≤◌}
use native.Mathlib.Omega.{arith}
use mathlib.Core.Bool.{Bool, true, false}
use mathlib.Core.List.{List, [], ◌∷◌}
use mathlib.Core.Logic.{◌⊎◌, inl, inr}
use mathlib.Core.Path.{◌≡◌, refl, sym, ap, ◌∙◌, subst}
use Rattle.bits.specs.Digits.{AllBelow}
use Rattle.step.specs.declared.Stepped.{Stepped}
use Rattle.game.specs.Attack.{attack_broken}
use Rattle.game.specs.Game.{Game, Proper}
use Rattle.game.specs.Keeps.{Keeps}
use Rattle.game.specs.Play.{RepliesHold, Seen, Strategy, ErrsWithin}
use Rattle.game.specs.Rank.{defeats}
use Rattle.game.specs.Reply.{reply_broken}
use Rattle.game.proofs.Laws.Attack.{unbroken_attack, defeat_lowers}
use Rattle.game.proofs.Laws.Reply.{unbroken_reply}

-- a number acts in a step as a control does
pub record ActsAs (g : Game) (s r k : ℕ) : Type 0 where
  pub control : ℕ
  pub below : control < g.controls
  pub alike : g.step s r k ≡ g.step s r control

module _ (g : Game) (proper : Proper g) where
  pub replies_play : (set : ℕ → Bool) (replies : ℕ → ℕ → ℕ) → ((s r : ℕ) → s < g.states → r < g.readings → reply_broken g set replies s r ≡ false)
      → (s : ℕ) → s < g.states → set s ≡ true → (rs : List ℕ) → AllBelow g.readings rs → RepliesHold g set replies s rs
  unfolding Keeps
  replies_play set replies rule s h e [] b = e
  replies_play set replies rule s h e (r ∷ rs) b =
      let (below, keep) = unbroken_reply g set replies s r (rule s r h b.0) e in
      (e, below, keep.0, replies_play set replies rule (g.step s r (replies s r)).next (proper.leads s r (replies s r)) keep.1 rs b.1)

  pub attacks_play : (ranks attacks : ℕ → ℕ) → ((s : ℕ) → s < g.states → attack_broken g ranks attacks s ≡ false) → ((s r k : ℕ) → ActsAs g s r k)
      → (σ : Strategy) (n : ℕ) (past : List Seen) (s : ℕ) → s < g.states → 0 < ranks s → ranks s ≤ n → ErrsWithin g attacks σ past n s
  attacks_play ranks attacks rule acts σ zero past s h low high = absurd (omega arith)
  attacks_play ranks attacks rule acts σ (suc n) past s h low high = (
    lost.0,
    by (g.step s (attacks s) (σ past s (attacks s))).error refl (λ p t. attacks_play ranks attacks rule acts σ n p t),
  )
    where
      lost : (attacks s < g.readings) × (defeats g ranks (ranks s - 1) s (attacks s) ≡ true)
      lost = unbroken_attack g ranks attacks s (rule s h) low

      by : (b : Bool) → (g.step s (attacks s) (σ past s (attacks s))).error ≡ b
          → ((p : List Seen) (t : ℕ) → t < g.states → 0 < ranks t → ranks t ≤ n → ErrsWithin g attacks σ p n t)
          → ((g.step s (attacks s) (σ past s (attacks s))).error ≡ true)
          ⊎ ErrsWithin g attacks σ (record { state = s; reading = attacks s; control = σ past s (attacks s) } ∷ past) n
          (g.step s (attacks s) (σ past s (attacks s))).next
      by true e ih = inl e
      by false e ih =
          let a = acts s (attacks s) (σ past s (attacks s)) in
          let lowered = defeat_lowers g ranks (ranks s - 1) s (attacks s) a.control lost.1 a.below
          (ap (λ (t : Stepped). t.error) (sym a.alike) ∙ e) in
          let (still, less) = subst (λ (t : Stepped). (0 < ranks t.next) × (ranks t.next ≤ ranks s - 1)) (sym a.alike) lowered in
          inr (ih _ _ (proper.leads s (attacks s) (σ past s (attacks s))) still (omega arith))
