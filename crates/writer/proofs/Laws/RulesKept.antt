-- The tables of our own certificates break no rule of the check: sizes, reset and steps, of replies where the circuit is realizable, of
-- attacks where it isn't (01, "The numbers", 13 to 15). Assumes nothing.
use Prim.Native.Nat.{ℕ, ◌*◌, ◌-◌, ◌/◌, ◌%◌, ◌^◌, ◌<◌, ◌≤◌}
use native.Mathlib.Decide.{dec_lt}
use native.Mathlib.Nat.{div-lt_iff_lt-mul, mod-lt, mod-eq_of_lt}
use native.Mathlib.Omega.{arith}
use mathlib.Core.Bool.{Bool, true, false, not, ◌&&◌, ◌||◌}
use mathlib.Core.List.{List}
use mathlib.Core.Path.{◌≡◌, refl, sym, ap, ap₂, ◌∙◌, subst}
use lib.Dec.{eqb, ltb}
use lib.Pow.{pow_pos, pow_mono}
use borrow.Author.Tests.{lt-ltb, le-ltb, eq-eqb, ne_eqb}
use Rattle.below.proofs.Laws.Least.{least_none, none_any, every_same}
use Rattle.circuit.specs.Circuit.{Circuit, latch_count, uncontrollable_count, controllable_count}
use Rattle.circuit.specs.Limits.{base}
use Rattle.circuit.specs.Reset.{is_reset}
use Rattle.game.specs.Attack.{attack, attack_broken}
use Rattle.game.specs.CircuitGame.{circuit_game, is_realizable}
use Rattle.game.specs.Game.{Game}
use Rattle.game.specs.Keeps.{Keeps}
use Rattle.game.specs.Rank.{rank, in_region, defeats}
use Rattle.game.specs.Reply.{reply, reply_broken}
use Rattle.game.specs.Verdict.{realizable}
use Rattle.game.proofs.Laws.Attack.{attacks_unbroken}
use Rattle.game.proofs.Laws.CircuitGame.{circuit_proper}
use Rattle.game.proofs.Laws.Rank.{rank_at-most}
use Rattle.game.proofs.Laws.Reply.{reply_unbroken, reply-is_control, reply-keeps, reply_outside as no_reply}
use Rattle.game.proofs.Laws.Verdict.{reset_in_region}
use Rattle.records.specs.AttackTable.{attack_bytes, stored_rank, stored_attack}
use Rattle.records.specs.RegionBits.{region_bytes}
use Rattle.records.specs.ReplyTable.{table_bytes}
use Rattle.records.proofs.Laws.Lengths.{length_region, length_attacks}
use Rattle.records.proofs.Laws.ReadBack.{region_holds, region_unused, rank_back, attack_back}
use Rattle.records.proofs.Laws.ReplyTable.{table_reads, length-table_bytes, table_unused}
use Rattle.solver.proofs.Laws.RankTable.{ranked_same, defeats_same}
use Rattle.checker.specs.Rules.{bad_reply_tables, bad_attack_table, reset_outside, reset_unranked, broken_reply, some_reply_broken, broken_attack}
use Rattle.checker.specs.StoredFor.{held_at, reply_at}
use Rattle.checker.proofs.Laws.Pass.{RepliesPass, AttacksPass}

-- the tables that are written
unfoldable pub own_region : Circuit → List ℕ
own_region c = region_bytes (in_region (circuit_game c)) (latch_count c)

unfoldable pub own_replies : (kind : ℕ) → Circuit → List ℕ
own_replies kind c = table_bytes kind (reply (circuit_game c)) (latch_count c) (uncontrollable_count c) (controllable_count c)

unfoldable pub own_attacks : Circuit → List ℕ
own_attacks c = attack_bytes (rank (circuit_game c)) (attack (circuit_game c)) (latch_count c)

zero_or_not : (n : ℕ) → eqb n 0 ≡ not (ltb 0 n)
zero_or_not n =
    elim (dec_lt 0 n) [
      | yes h ↦ ne_eqb n 0 (λ e. omega arith) ∙ sym (ap not (lt-ltb 0 n h))
      | no h ↦ eq-eqb n 0 (omega arith) ∙ sym (ap not (le-ltb 0 n (omega arith)))
    ]

both-not : (a b : Bool) → (a ≡ true → b ≡ true) → (a && not b) ≡ false
both-not true b h = ap not (h refl)
both-not false b h = refl

module _ (c : Circuit) where
  pub holds_is : (s : ℕ) → s < (circuit_game c).states → held_at c (own_region c) s ≡ in_region (circuit_game c) s
  unfolding own_region circuit_game
  holds_is s h = region_holds (in_region (circuit_game c)) (latch_count c) s h

  -- a reply has C bits: inside the region it is a control, outside it is 0
  pub reply_small : (s r : ℕ) → s < 2 ^ latch_count c → r < 2 ^ uncontrollable_count c → reply (circuit_game c) s r < 2 ^ controllable_count c
  unfolding circuit_game
  reply_small s r h l = by (in_region (circuit_game c) s) refl
    where
      by : (b : Bool) → in_region (circuit_game c) s ≡ b → reply (circuit_game c) s r < 2 ^ controllable_count c
      by true e = reply-is_control (circuit_game c) (circuit_proper c) s r h l e
      by false e = subst (λ (k : ℕ). k < 2 ^ controllable_count c) (sym (no_reply (circuit_game c) s r e)) (pow_pos (controllable_count c))

  replies_reset : is_realizable c ≡ true → reset_outside c (own_region c) ≡ false
  unfolding reset_outside is_realizable
  replies_reset e =
      none_any (λ s. is_reset c s && not (held_at c (own_region c) s)) (circuit_game c).states
      (λ s h. both-not (is_reset c s) (held_at c (own_region c) s) (λ r. holds_is s h ∙ reset_in_region (circuit_game c) (is_reset c) e s h r))

  some_reading : 0 < (circuit_game c).readings
  unfolding circuit_game
  some_reading = pow_pos (uncontrollable_count c)

  -- of either kind
  module _ (kind : ℕ) where
    abbrev own_reply : (state reading : ℕ) → ℕ
    own_reply = reply_at c kind (own_replies kind c)

    pub stored_is : (s r : ℕ) → s < (circuit_game c).states → r < (circuit_game c).readings → own_reply s r ≡ reply (circuit_game c) s r
    unfolding own_replies circuit_game
    stored_is s r h l =
        table_reads kind (reply (circuit_game c)) (latch_count c) (uncontrollable_count c) (controllable_count c) reply_small s r
        ∙ ap₂ (reply (circuit_game c)) (mod-eq_of_lt h) (mod-eq_of_lt l)

    replies_sized : bad_reply_tables c (own_region c) kind (own_replies kind c) ≡ false
    unfolding bad_reply_tables own_region own_replies
    replies_sized =
        rw (
          eq-eqb _ _ (length_region (in_region (circuit_game c)) (latch_count c)),
          region_unused (in_region (circuit_game c)) (latch_count c),
          eq-eqb _ _ (length-table_bytes kind (reply (circuit_game c)) (latch_count c) (uncontrollable_count c) (controllable_count c)),
          table_unused kind (reply (circuit_game c)) (latch_count c) (uncontrollable_count c) (controllable_count c),
        )

    unbroken :
        (s r : ℕ) → s < (circuit_game c).states → r < (circuit_game c).readings
        → reply_broken (circuit_game c) (held_at c (own_region c)) own_reply s r ≡ false
    unfolding Keeps
    unbroken s r h l = reply_unbroken g (held_at c (own_region c)) own_reply s r (λ e. fine (sym (holds_is s h) ∙ e))
      where
        g : Game
        g = circuit_game c

        fine :
            in_region (circuit_game c) s ≡ true
            → (own_reply s r < (circuit_game c).controls) × Keeps (circuit_game c) (λ t. held_at c (own_region c) t ≡ true) s r (own_reply s r)
        fine inside =
            let (quiet, next) = reply-keeps (circuit_game c) (circuit_proper c) s r h l inside in
            subst (λ (k : ℕ). (k < (circuit_game c).controls) × Keeps (circuit_game c) (λ t. held_at c (own_region c) t ≡ true) s r k)
            (sym (stored_is s r h l))
            (reply-is_control (circuit_game c) (circuit_proper c) s r h l inside, (quiet, holds_is _ ((circuit_proper c).leads s r _) ∙ next))

    replies_rule : some_reply_broken c (own_region c) kind (own_replies kind c) ≡ false
    unfolding broken_reply
    replies_rule =
        le-ltb (broken_reply c (own_region c) kind (own_replies kind c)) ((circuit_game c).states * (circuit_game c).readings)
        (omega (
          arith,
          least_none broken ((circuit_game c).states * (circuit_game c).readings)
              (λ i h.
              unbroken (i / (circuit_game c).readings) (i % (circuit_game c).readings)
              ((div-lt_iff_lt-mul {k = (circuit_game c).readings} {x = i} {y = (circuit_game c).states} some_reading).1 h)
              (mod-lt i {m = (circuit_game c).readings} some_reading)),
        ))
      where
        broken : ℕ → Bool
        broken i = reply_broken (circuit_game c) (held_at c (own_region c)) own_reply (i / (circuit_game c).readings) (i % (circuit_game c).readings)

    pub replies_pass : is_realizable c ≡ true → RepliesPass c (own_region c) kind (own_replies kind c)
    replies_pass e = record { sized = replies_sized; reset = replies_reset e; rule = replies_rule }

module _ (c : Circuit) (few : latch_count c ≤ base.latches) where
  small : (s : ℕ) → rank (circuit_game c) s < 65536
  unfolding circuit_game
  small s = omega (arith, rank_at-most (circuit_game c) s, pow_mono {i = latch_count c} {j = base.latches} few)

  pub rank_is : (s : ℕ) → s < (circuit_game c).states → stored_rank (own_attacks c) (latch_count c) s ≡ rank (circuit_game c) s
  unfolding own_attacks circuit_game
  rank_is s h = rank_back (rank (circuit_game c)) (attack (circuit_game c)) (latch_count c) s h (small s)

  pub attack-is : (s : ℕ) → s < (circuit_game c).states → stored_attack (own_attacks c) (latch_count c) s ≡ attack (circuit_game c) s
  unfolding own_attacks circuit_game
  attack-is s h = attack_back (rank (circuit_game c)) (attack (circuit_game c)) (latch_count c) s h

  attacks_sized : bad_attack_table c (own_attacks c) ≡ false
  unfolding bad_attack_table own_attacks
  attacks_sized = rw (eq-eqb _ _ (length_attacks (rank (circuit_game c)) (attack (circuit_game c)) (latch_count c)))

  attacks_reset : is_realizable c ≡ false → reset_unranked c (own_attacks c) ≡ false
  unfolding reset_unranked is_realizable realizable in_region
  attacks_reset e =
      every_same (λ s. not (is_reset c s) || eqb (stored_rank (own_attacks c) (latch_count c) s) 0) (λ s. not (is_reset c s) || in_region (circuit_game c) s)
      (circuit_game c).states
      (λ s h. ap (λ (b : Bool). not (is_reset c s) || b) (ap (λ (n : ℕ). eqb n 0) (rank_is s h) ∙ zero_or_not (rank (circuit_game c) s)))
      ∙ e

  same_broken :
      (s : ℕ) → s < (circuit_game c).states
      → attack_broken (circuit_game c) (stored_rank (own_attacks c) (latch_count c)) (stored_attack (own_attacks c) (latch_count c)) s
      ≡ attack_broken (circuit_game c) (rank (circuit_game c)) (attack (circuit_game c)) s
  unfolding attack_broken
  same_broken s h =
      ap₂
      (λ (n a : ℕ). ltb 0 n && not (ltb a (circuit_game c).readings && defeats (circuit_game c) (stored_rank (own_attacks c) (latch_count c)) (n - 1) s a))
      (rank_is s h) (attack-is s h)
      ∙ ap (λ (b : Bool). ltb 0 (rank (circuit_game c) s) && not (ltb (attack (circuit_game c) s) (circuit_game c).readings && b))
      (defeats_same (circuit_game c) (circuit_proper c) (stored_rank (own_attacks c) (latch_count c)) (rank (circuit_game c)) (rank (circuit_game c) s - 1)
      s (attack (circuit_game c) s)
      (λ t l. ranked_same (stored_rank (own_attacks c) (latch_count c)) (rank (circuit_game c)) (rank (circuit_game c) s - 1) t (rank_is t l)))

  attacks_rule : ltb (broken_attack c (own_attacks c)) (circuit_game c).states ≡ false
  unfolding broken_attack
  attacks_rule =
      le-ltb (broken_attack c (own_attacks c)) (circuit_game c).states
      (omega (
        arith,
        least_none (attack_broken (circuit_game c) (stored_rank (own_attacks c) (latch_count c)) (stored_attack (own_attacks c) (latch_count c)))
            (circuit_game c).states (λ s h. same_broken s h ∙ attacks_unbroken (circuit_game c) (circuit_proper c) s h),
      ))

  pub attacks_pass : is_realizable c ≡ false → AttacksPass c (own_attacks c)
  attacks_pass e = record { sized = attacks_sized; reset = attacks_reset e; rule = attacks_rule }
