-- The judging of tables as the code takes it, over a net: 13, 14, where reset is state 0, and 15 at the lowest place. Assumes nothing.
use Prim.Native.Nat.{ℕ, zero, suc, ◌+◌, ◌*◌, ◌^◌, ◌<◌}
use native.Mathlib.Omega.{arith}
use mathlib.Core.Bool.{Bool, true, false, not, ◌&&◌, ◌||◌}
use mathlib.Core.List.{List}
use mathlib.Core.Path.{◌≡◌, refl, sym, ap, ap₂, ◌∙◌}
use borrow.Author.Tests.{eq-eqb, ne_eqb}
use lib.Dec.{eqb, ltb}
use lib.ListN.{length}
use lib.Pow.{pow-add, pow_pos}
use Rattle.std.specs.Prelude.{Some, None}
use Rattle.below.specs.Least.{any, every}
use Rattle.below.proofs.Laws.Least.{any_of, none_any}
use Rattle.circuit.specs.Circuit.{Circuit, latch_count}
use Rattle.circuit.specs.Outcome.{Outcome, taken, refused, ◌>>◌}
use Rattle.circuit.specs.Reset.{is_reset}
use Rattle.game.specs.CircuitGame.{circuit_game}
use Rattle.net.specs.Net.{net_latches, net_readings, net_controls}
use Rattle.net.specs.NetOf.{net_of}
use Rattle.records.specs.AttackTable.{attack_length, stored_rank}
use Rattle.records.specs.RegionBits.{holds_state}
use Rattle.records.specs.Tables.{Tables}
use Rattle.checker.specs.Check.{tables_checked}
use Rattle.checker.specs.Numbers.{bad_table, bad_reset, broken_step}
use Rattle.checker.specs.Rules.{badly_sized, bad_reply_tables, bad_attack_table, reset_outside, reset_unranked}
use Rattle.checker.specs.Rules.{some_reply_broken, some_attack_broken}
use Rattle.checker.specs.Inner.Faults.{place_fault, first_reply_fault, attack_fault, first_attack_fault}
use Rattle.checker.specs.Inner.TablesAs.{RepliesAs, AttacksAs}
use Rattle.checker.proofs.Laws.Counted.{net_latches_are, net_readings_are, net_controls_are}
use Rattle.checker.proofs.Laws.Faults.{broken_reply-is, broken_attack-is}
use Rattle.checker.proofs.Laws.Found.{found_place, no_place}
use Rattle.checker.proofs.Laws.JudgedBy.{judged_bad, judged_reset, judged_broken, judged_fine}

-- a test that is false of every number but 0
only_zero : (p : ℕ → Bool) (n : ℕ) → 0 < n → ((s : ℕ) → (s ≡ 0 → ⊥) → p s ≡ false) → any p n ≡ p 0
only_zero p n h others = by (p 0) refl
  where
    at : p 0 ≡ false → (s : ℕ) → p s ≡ false
    at e zero = e
    at e (suc s) = others (suc s) (λ z. omega arith)

    by : (b : Bool) → p 0 ≡ b → any p n ≡ p 0
    by true e = any_of p n 0 h e ∙ sym e
    by false e = none_any p n (λ s l. at e s) ∙ sym e

not-not : (b : Bool) → not (not b) ≡ b
not-not true = refl
not-not false = refl

-- 14, for the one reset state
reset_outside-is : (c : Circuit) (region : List ℕ) → reset_outside c region ≡ not (holds_state region (latch_count c) 0)
unfolding reset_outside is_reset circuit_game
reset_outside-is c region =
    only_zero (λ s. eqb s 0 && not (holds_state region (latch_count c) s)) (2 ^ latch_count c) (pow_pos (latch_count c))
    (λ s d. ap (λ (b : Bool). b && not (holds_state region (latch_count c) s)) (ne_eqb s 0 d))

reset_unranked-is : (c : Circuit) (table : List ℕ) → reset_unranked c table ≡ eqb (stored_rank table (latch_count c) 0) 0
unfolding reset_unranked every is_reset circuit_game
reset_unranked-is c table =
    ap not
    (only_zero (λ s. not (not (eqb s 0) || eqb (stored_rank table (latch_count c) s) 0)) (2 ^ latch_count c) (pow_pos (latch_count c))
    (λ s d. ap (λ (b : Bool). not (not b || eqb (stored_rank table (latch_count c) s) 0)) (ne_eqb s 0 d)))
    ∙ not-not (eqb (stored_rank table (latch_count c) 0) 0)

-- an outcome of the judging, and what is answered then
abbrev after : Outcome Tables → Outcome (Unit {0})
after p = p >> taken tt

told : (o judged : Outcome Tables) → judged ≡ o → after o ≡ after judged
told o judged e = ap after (sym e)

module _ (net region : List ℕ) (kind : ℕ) (table : List ℕ) where
  abbrev bad : Bool
  bad = badly_sized region kind table (net_latches net) (net_readings net) (net_controls net)

  module _ (c : Circuit) (is : net ≡ net_of c) where
    bad_is : bad_reply_tables c region kind table ≡ bad
    unfolding bad_reply_tables
    bad_is = sym (λ x. badly_sized region kind table (net_latches_are c net is x) (net_readings_are c net is x) (net_controls_are c net is x))

    outside_is : reset_outside c region ≡ not (holds_state region (net_latches net) 0)
    outside_is = reset_outside-is c region ∙ ap (λ (n : ℕ). not (holds_state region n 0)) (sym (net_latches_are c net is))

    broken_is : some_reply_broken c region kind table ≡ any (place_fault net region kind table) (2 ^ (net_latches net + net_readings net))
    unfolding any circuit_game
    broken_is =
        ap₂ ltb (sym (broken_reply-is c net is region kind table))
        (sym (pow-add 2 (net_latches net) (net_readings net) ∙ ap₂ (λ (n m : ℕ). 2 ^ n * 2 ^ m) (net_latches_are c net is) (net_readings_are c net is)))

  pub replies_badly_sized : bad ≡ true → RepliesAs net region kind table (refused bad_table 0)
  unfolding tables_checked
  replies_badly_sized e c is circuit = told _ _ (judged_bad _ _ _ _ _ (bad_is c is ∙ e))

  module _ (sized : bad ≡ false) where
    pub replies_badly_reset : holds_state region (net_latches net) 0 ≡ false → RepliesAs net region kind table (refused bad_reset 0)
    unfolding tables_checked
    replies_badly_reset f c is circuit = told _ _ (judged_reset _ _ _ _ _ (bad_is c is ∙ sized) (outside_is c is ∙ ap not f))

    module _ (f : holds_state region (net_latches net) 0 ≡ true) where
      pub replies_broken :
          (place : ℕ) → Some place ≡ first_reply_fault net region kind table → RepliesAs net region kind table (refused broken_step place)
      unfolding tables_checked
      replies_broken place e c is circuit =
          let (some, at) = found_place _ _ place e in
          ap (refused broken_step) (at ∙ broken_reply-is c net is region kind table)
          ∙ told _ _ (judged_broken _ _ _ _ _ (bad_is c is ∙ sized) (outside_is c is ∙ ap not f) (broken_is c is ∙ some))

      pub replies_pass : None ≡ first_reply_fault net region kind table → RepliesAs net region kind table (taken tt)
      unfolding tables_checked
      replies_pass e c is circuit =
          told _ _ (judged_fine _ _ _ _ _ (bad_is c is ∙ sized) (outside_is c is ∙ ap not f) (broken_is c is ∙ no_place _ _ e))

module _ (net table : List ℕ) where
  abbrev long : Bool
  long = eqb (length table) (3 * 2 ^ net_latches net)

  module _ (c : Circuit) (is : net ≡ net_of c) where
    long_is : bad_attack_table c table ≡ not long
    unfolding bad_attack_table attack_length
    long_is = ap (λ (n : ℕ). not (eqb (length table) (3 * 2 ^ n))) (sym (net_latches_are c net is))

    unranked-is : reset_unranked c table ≡ eqb (stored_rank table (net_latches net) 0) 0
    unranked-is = reset_unranked-is c table ∙ ap (λ (n : ℕ). eqb (stored_rank table n 0) 0) (sym (net_latches_are c net is))

    lost_is : some_attack_broken c table ≡ any (attack_fault net table) (2 ^ net_latches net)
    unfolding any circuit_game
    lost_is = ap₂ ltb (sym (broken_attack-is c net is table)) (ap (λ (n : ℕ). 2 ^ n) (sym (net_latches_are c net is)))

  pub attacks_badly_sized : (length table ≡ 3 * 2 ^ net_latches net → ⊥) → AttacksAs net table (refused bad_table 0)
  unfolding tables_checked
  attacks_badly_sized d c is circuit = told _ _ (judged_bad _ _ _ _ _ (long_is c is ∙ ap not (ne_eqb _ _ d)))

  module _ (sized : length table ≡ 3 * 2 ^ net_latches net) where
    fits : (c : Circuit) → net ≡ net_of c → bad_attack_table c table ≡ false
    fits c is = long_is c is ∙ ap not (eq-eqb _ _ sized)

    pub attacks_badly_reset : stored_rank table (net_latches net) 0 ≡ 0 → AttacksAs net table (refused bad_reset 0)
    unfolding tables_checked
    attacks_badly_reset f c is circuit = told _ _ (judged_reset _ _ _ _ _ (fits c is) (unranked-is c is ∙ eq-eqb _ _ f))

    module _ (f : stored_rank table (net_latches net) 0 ≡ 0 → ⊥) where
      pub attacks_broken : (place : ℕ) → Some place ≡ first_attack_fault net table → AttacksAs net table (refused broken_step place)
      unfolding tables_checked
      attacks_broken place e c is circuit =
          let (some, at) = found_place _ _ place e in
          ap (refused broken_step) (at ∙ broken_attack-is c net is table)
          ∙ told _ _ (judged_broken _ _ _ _ _ (fits c is) (unranked-is c is ∙ ne_eqb _ _ f) (lost_is c is ∙ some))

      pub attacks_pass : None ≡ first_attack_fault net table → AttacksAs net table (taken tt)
      unfolding tables_checked
      attacks_pass e c is circuit =
          told _ _ (judged_fine _ _ _ _ _ (fits c is) (unranked-is c is ∙ ne_eqb _ _ f) (lost_is c is ∙ no_place _ _ e))
