-- The tests for 13 and 14 say what their statements say (01, "The numbers"). Assumes nothing.
use Prim.Native.Nat.{ℕ, zero, suc, ◌+◌, ◌*◌, ◌%◌, ◌^◌, ◌<◌, ◌≤◌}
use native.Mathlib.Omega.{arith}
use native.Mathlib.Nat.{mod-eq_of_lt}
use mathlib.Core.Bool.{Bool, true, false, not, ◌&&◌, ◌||◌, true≢false}
use mathlib.Core.List.{List}
use mathlib.Core.Logic.{◌↔◌}
use mathlib.Core.Path.{◌≡◌, refl, sym, ap, ap₂, ◌∙◌}
use borrow.Author.Tests.{eqb-true, eqb-false, eq-eqb, ne_eqb, leb-true, le-leb, not-true}
use lib.Dec.{eqb, leb}
use lib.ListN.{length}
use lib.Pow.{pow_pos}
use Rattle.below.specs.Least.{least}
use Rattle.below.proofs.Laws.Least.{any_of, any-least, any_holds, every_at, every_of}
use Rattle.below.proofs.Laws.Says.{test-fails, fails-test}
use Rattle.bits.specs.BitBytes.{unused_bit}
use Rattle.bits.specs.ByteBit.{byte_bit}
use Rattle.bits.proofs.Laws.Bytes.{both_true}
use Rattle.circuit.specs.Circuit.{Circuit, latch_count, uncontrollable_count, controllable_count}
use Rattle.circuit.specs.Reset.{is_reset}
use Rattle.game.specs.CircuitGame.{circuit_game}
use Rattle.records.specs.AttackTable.{stored_rank}
use Rattle.records.specs.Record.{packed_kind}
use Rattle.records.specs.RegionBits.{region_length, holds_state, unused_bit_set}
use Rattle.records.specs.ReplyTable.{table_length, unused_reply_bit}
use Rattle.checker.specs.Rules.{bad_reply_tables, bad_attack_table, reset_outside, reset_unranked}
use Rattle.checker.specs.StoredRegion.{Holds}
use Rattle.checker.specs.WrongReset.{ResetNotHeld, ResetOfRankZero}
use Rattle.checker.specs.WrongTables.{WrongReplies, bad_region_length, bad_reply_length, unused_in_region, unused_in_replies, WrongAttacks}

-- the stored region, by its test
pub holds_state_lem : (region : List ℕ) (L s : ℕ) → s < 2 ^ L → (holds_state region L s ≡ true) ↔ Holds region s
unfolding holds_state
holds_state_lem region L s h =
    let same : byte_bit region (s % 2 ^ L) ≡ byte_bit region s = ap (byte_bit region) (mod-eq_of_lt h) in
    (λ e. sym same ∙ eqb-true _ 1 e, λ e. eq-eqb _ 1 (same ∙ e))

-- 13
unused_bit_lem : (bytes : List ℕ) (used : ℕ) → unused_bit bytes used ≡ true → (i : ℕ) × (used ≤ i) × (i < 8 * length bytes) × (byte_bit bytes i ≡ 1)
unfolding unused_bit
unused_bit_lem bytes used e =
    let p : ℕ → Bool = λ i. leb used i && eqb (byte_bit bytes i) 1 in
    let n : ℕ = 8 * length bytes in
    let (high, one) = both_true (leb used (least p n)) (eqb (byte_bit bytes (least p n)) 1) (any_holds p n e) in
    (least p n, leb-true _ _ high, any-least p n e, eqb-true _ 1 one)

bit_unused : (bytes : List ℕ) (used i : ℕ) → used ≤ i → i < 8 * length bytes → byte_bit bytes i ≡ 1 → unused_bit bytes used ≡ true
unfolding unused_bit
bit_unused bytes used i high h one =
    any_of (λ j. leb used j && eqb (byte_bit bytes j) 1) (8 * length bytes) i h (rw (le-leb used i high, eq-eqb (byte_bit bytes i) 1 one))

-- one of four tests
data OneOf (a b d f : Bool) : Type 0 where
  first : a ≡ true → OneOf a b d f
  second : b ≡ true → OneOf a b d f
  third : d ≡ true → OneOf a b d f
  fourth : f ≡ true → OneOf a b d f

one_of : (a b d f : Bool) → ((a || b) || (d || f)) ≡ true → OneOf a b d f
one_of true b d f e = first refl
one_of false true d f e = second refl
one_of false false true f e = third refl
one_of false false false f e = fourth e

of_one : (a b d f : Bool) → OneOf a b d f → ((a || b) || (d || f)) ≡ true
of_one true b d f o = refl
of_one false true d f o = refl
of_one false false true f o = refl
of_one false false false f (first e) = absurd (true≢false (sym e))
of_one false false false f (second e) = absurd (true≢false (sym e))
of_one false false false f (third e) = absurd (true≢false (sym e))
of_one false false false f (fourth e) = e

pub replies_wrong :
    (c : Circuit) (region : List ℕ) (kind : ℕ) (table : List ℕ) → (bad_reply_tables c region kind table ≡ true) ↔ WrongReplies c region kind table
unfolding bad_reply_tables unused_bit_set unused_reply_bit
replies_wrong c region kind table = (λ e. to (one_of _ _ _ _ e), λ w. of_one _ _ _ _ (back w))
  where
    a : Bool
    a = not (eqb (length region) (region_length (latch_count c)))

    b : Bool
    b = not (eqb (length table) (table_length kind (latch_count c) (uncontrollable_count c) (controllable_count c)))

    used : ℕ
    used = controllable_count c * 2 ^ (latch_count c + uncontrollable_count c)

    Wrong : Type 0
    Wrong = OneOf a (unused_bit region (2 ^ latch_count c)) b (eqb kind packed_kind && unused_bit table used)

    to : Wrong → WrongReplies c region kind table
    to (first e) = bad_region_length (eqb-false _ _ (not-true _ e))
    to (second e) = let (i, high, h, one) = unused_bit_lem region (2 ^ latch_count c) e in unused_in_region i high h one
    to (third e) = bad_reply_length (eqb-false _ _ (not-true _ e))
    to (fourth e) =
        let (packed, unused) = both_true (eqb kind packed_kind) (unused_bit table used) e in
        let (i, high, h, one) = unused_bit_lem table used unused in
        unused_in_replies (eqb-true _ _ packed) i high h one

    back : WrongReplies c region kind table → Wrong
    back (bad_region_length d) = first (ap not (ne_eqb _ _ d))
    back (bad_reply_length d) = third (ap not (ne_eqb _ _ d))
    back (unused_in_region i high h one) = second (bit_unused region (2 ^ latch_count c) i high h one)
    back (unused_in_replies packed i high h one) =
        fourth (ap₂ ◌&&◌ (eq-eqb kind packed_kind packed) (bit_unused table used i high h one))

pub attacks_wrong : (c : Circuit) (table : List ℕ) → (bad_attack_table c table ≡ true) ↔ WrongAttacks c table
unfolding bad_attack_table
attacks_wrong c table = (λ e. eqb-false _ _ (not-true _ e), λ d. ap not (ne_eqb _ _ d))

-- 14: reset is state 0
pub reset_not_held : (c : Circuit) (region : List ℕ) → (reset_outside c region ≡ true) ↔ ResetNotHeld region
unfolding reset_outside is_reset circuit_game
reset_not_held c region = (
  λ e.
      let n : ℕ = 2 ^ latch_count c in
      let (zero_is, out) = both_true (eqb (least p n) 0) (not (holds_state region (latch_count c) (least p n))) (any_holds p n e) in
      let there : holds_state region (latch_count c) 0 ≡ false = ap (holds_state region (latch_count c)) (sym (eqb-true _ 0 zero_is)) ∙ not-true _ out in
      test-fails _ (holds_state_lem region (latch_count c) 0 (pow_pos (latch_count c))) there,
  λ other. any_of p (2 ^ latch_count c) 0 (pow_pos (latch_count c)) (ap not
      (fails-test _ (holds_state_lem region (latch_count c) 0 (pow_pos (latch_count c))) other)),
)
  where
    p : ℕ → Bool
    p s = eqb s 0 && not (holds_state region (latch_count c) s)

pub reset_of_rank_zero : (c : Circuit) (table : List ℕ) → (reset_unranked c table ≡ true) ↔ ResetOfRankZero c table
unfolding reset_unranked is_reset circuit_game
reset_of_rank_zero c table =
    (λ e. eqb-true _ 0 (every_at p (2 ^ latch_count c) 0 e (pow_pos (latch_count c))), λ z. every_of p (2 ^ latch_count c) (λ s h. at z s))
  where
    p : ℕ → Bool
    p s = not (eqb s 0) || eqb (stored_rank table (latch_count c) s) 0

    at : stored_rank table (latch_count c) 0 ≡ 0 → (s : ℕ) → p s ≡ true
    at z zero = eq-eqb _ 0 z
    at z (suc s) = ap (λ (b : Bool). not b || eqb (stored_rank table (latch_count c) (suc s)) 0) (ne_eqb (suc s) 0 (λ e. omega (arith, e)))
