-- What a pass means, whoever made the certificate: replies that pass hold against every run of readings, attacks that pass meet the error
-- against every strategy, and each kind decides the verdict. Assumes nothing.
use Prim.Native.Nat.{ℕ, ◌^◌, ◌<◌}
use native.Mathlib.Nat.{le_refl}
use mathlib.Core.Bool.{Bool, true, false, true≢false}
use mathlib.Core.List.{List, []}
use mathlib.Core.Path.{◌≡◌, refl, sym, ◌∙◌, subst}
use borrow.Author.Tests.{eqb-true}
use lib.Pow.{pow_pos}
use Rattle.bits.specs.Digits.{AllBelow}
use Rattle.circuit.specs.Circuit.{Circuit, latch_count, uncontrollable_count}
use Rattle.circuit.specs.Outcome.{taken}
use Rattle.circuit.specs.Reset.{is_reset}
use Rattle.file.specs.CircuitIn.{circuit_in}
use Rattle.game.specs.CircuitGame.{circuit_game, is_realizable}
use Rattle.game.specs.Play.{RepliesHold, Strategy, ErrsWithin}
use Rattle.game.specs.Rank.{in_region}
use Rattle.game.proofs.Laws.Attack.{unbroken_outside}
use Rattle.game.proofs.Laws.CircuitGame.{circuit_proper, circuit_acts}
use Rattle.game.proofs.Laws.Play.{replies_play, attacks_play}
use Rattle.game.proofs.Laws.Reply.{unbroken_closed}
use Rattle.game.proofs.Laws.Verdict.{reset_in_region, realizable_complete}
use Rattle.records.specs.Tables.{Tables}
use Rattle.checker.specs.Check.{check_of}
use Rattle.checker.specs.StoredFor.{held_at, reply_at, rank_at, attack_at}
use Rattle.checker.proofs.Laws.Pass.{RepliesPass, AttacksPass, TablesPass, pass_is}
use Rattle.checker.proofs.Laws.Rules.{no_reply_broken, reset_held, no_attack_broken, RankedReset, reset_ranked}

-- a file that is read says one circuit, for which its certificate passes
pub passes_for :
    (file certificate : List ℕ) (t : Tables) (c : Circuit) → check_of file certificate ≡ taken t → circuit_in file ≡ taken c
    → TablesPass c t
passes_for file certificate t c e read =
    let p = pass_is file certificate t e in
    let same : p.circuit ≡ c = let f = p.reads in cc in
    subst (λ (d : Circuit). TablesPass d t) same p.fine

reset_zero : (c : Circuit) → is_reset c 0 ≡ true
unfolding is_reset
reset_zero c = refl

zero_reset : (c : Circuit) (s : ℕ) → is_reset c s ≡ true → s ≡ 0
unfolding is_reset
zero_reset c s e = eqb-true s 0 e

module _ (c : Circuit) (region : List ℕ) (kind : ℕ) (table : List ℕ) (fine : RepliesPass c region kind table) where
  -- for every finite run of readings a reply is there, the error is 0 and the state stays in the stored region
  pub replies_hold :
      (rs : List ℕ) → AllBelow (2 ^ uncontrollable_count c) rs → RepliesHold (circuit_game c) (held_at c region) (reply_at c kind table) 0 rs
  unfolding circuit_game
  replies_hold rs h =
      replies_play (circuit_game c) (circuit_proper c) (held_at c region) (reply_at c kind table) (no_reply_broken c region kind table fine) 0
      (pow_pos (latch_count c)) (reset_held c region kind table fine 0 (pow_pos (latch_count c)) (reset_zero c)) rs h

  pub replies_realizable : is_realizable c ≡ true
  unfolding is_realizable
  replies_realizable =
      realizable_complete (circuit_game c) (circuit_proper c) (is_reset c)
      (record {
        set = λ s. held_at c region s ≡ true;
        closed = unbroken_closed (circuit_game c) (held_at c region) (reply_at c kind table) (no_reply_broken c region kind table fine);
        holds_reset = reset_held c region kind table fine;
      })

module _ (c : Circuit) (table : List ℕ) (fine : AttacksPass c table) where
  -- against every strategy of controls, also one that gives a number of more bits, the error is 1 no later than the step given by the stored rank
  -- of state 0
  pub attacks_err : (σ : Strategy) → ErrsWithin (circuit_game c) (attack_at c table) σ [] (rank_at c table 0) 0
  unfolding circuit_game
  attacks_err σ =
      let w = reset_ranked c table fine in
      let first : w.state ≡ 0 = zero_reset c w.state w.reset in
      let ranked : 0 < rank_at c table 0 = subst (λ (s : ℕ). 0 < rank_at c table s) first w.ranked in
      attacks_play (circuit_game c) (circuit_proper c) (rank_at c table) (attack_at c table) (no_attack_broken c table fine) (circuit_acts c) σ
      (rank_at c table 0) [] 0 (pow_pos (latch_count c)) ranked (le_refl _)

  pub attacks_unrealizable : is_realizable c ≡ false
  unfolding is_realizable
  attacks_unrealizable = by (is_realizable c) refl
    where
      w : RankedReset c table fine
      w = reset_ranked c table fine

      outside : in_region (circuit_game c) w.state ≡ false
      outside =
          unbroken_outside (circuit_game c) (circuit_proper c) (rank_at c table) (attack_at c table) (no_attack_broken c table fine) w.state w.is
          w.ranked

      by : (b : Bool) → is_realizable c ≡ b → is_realizable c ≡ false
      by true e = absurd (true≢false (sym (reset_in_region (circuit_game c) (is_reset c) e w.state w.is w.reset) ∙ outside))
      by false e = e
