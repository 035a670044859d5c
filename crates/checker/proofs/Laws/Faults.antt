-- A broken step rule at one place of a net's game, by the lane of its move; and the searches for the lowest place. Assumes nothing.
use Prim.Native.Nat.{ℕ, ◌+◌, ◌*◌, ◌/◌, ◌%◌, ◌^◌, ◌<◌, ◌≤◌, min}
use native.Mathlib.Nat.{mul-le-mul_right}
use native.Mathlib.Omega.{arith}
use mathlib.Core.Bool.{Bool, true, false, not, ◌&&◌}
use mathlib.Core.List.{List}
use mathlib.Core.Path.{◌≡◌, sym, ap, ap₂, ◌∙◌, subst₂}
use borrow.Author.Tests.{lt-ltb}
use lib.Arith.{digits_div, digits_lt, digits_mod}
use lib.Dec.{ltb}
use lib.Pow.{pow-add}
use Rattle.std.specs.Prelude.{Some, None}
use Rattle.below.specs.Least.{least}
use Rattle.blocks.specs.Lane.{width, move_in, lits_in}
use Rattle.circuit.specs.Circuit.{Circuit, latch_count, uncontrollable_count, controllable_count}
use Rattle.game.specs.Attack.{attack_broken}
use Rattle.game.specs.CircuitGame.{circuit_game}
use Rattle.game.specs.Game.{Game}
use Rattle.game.specs.Keeps.{keeps}
use Rattle.game.specs.NetGame.{net_game, net_move, keeps_by}
use Rattle.game.specs.Reply.{reply_broken}
use Rattle.game.proofs.Laws.NetGame.{net_game_lem}
use Rattle.net.specs.Net.{net_latches, net_readings, net_controls}
use Rattle.net.specs.NetOf.{net_of}
use Rattle.records.specs.AttackTable.{stored_rank, stored_attack}
use Rattle.records.specs.Kinds.{reply_kind_number}
use Rattle.records.specs.RegionBits.{holds_state}
use Rattle.records.specs.ReplyTable.{stored_reply}
use Rattle.checker.specs.Inner.Faults.{reply_fault, place_fault, first_reply_fault, attack_fault}
use Rattle.checker.specs.Inner.Holding.{Holding}
use Rattle.checker.specs.Rules.{broken_reply, broken_attack}
use Rattle.checker.specs.declared.replies.ReplyTables.{ReplyTables}
use Rattle.checker.specs.declared.sized.Evaluated.{Evaluated}
use Rattle.checker.proofs.Laws.Found.{Behind, behind_next, found_lowest, none_lowest}
use Rattle.checker.proofs.Laws.Held.{lane_keeps}

-- the stored reply, by the counts that the code has
module _ (t : ReplyTables) (s r : ℕ) where
  abbrev net : List ℕ
  net = t.net.numbers.now

  abbrev set : ℕ → ℕ → Bool
  set L = holds_state t.region.now L

  abbrev fault : Bool
  fault = reply_fault net t.region.now (reply_kind_number t.kind) t.table.now s r

  abbrev stored : (L U C : ℕ) → ℕ
  stored L U C = stored_reply (reply_kind_number t.kind) t.table.now L U C s r

  abbrev reply : ℕ
  reply = stored (min t.net.counts.latches 10) (min t.net.counts.readings 5) (min t.net.counts.controls 8)

  reply-is : reply ≡ stored (net_latches net) (net_readings net) (net_controls net)
  reply-is = λ x. stored (l x) (u x) (d x)
    where
      l : min t.net.counts.latches 10 ≡ net_latches net
      l = omega (arith, t.net.few_latches, t.net.latches)

      u : min t.net.counts.readings 5 ≡ net_readings net
      u = omega (arith, t.net.few_readings, t.net.readings)

      d : min t.net.counts.controls 8 ≡ net_controls net
      d = omega (arith, t.net.few_controls, t.net.controls)

  -- inside the stored region, below 2^C, by the lane of its move in a block that is evaluated
  pub lane_fault :
      set t.net.counts.latches s ≡ true → (k : ℕ) → k ≡ reply → k < 2 ^ net_controls net → (e : Evaluated) → e.net.now ≡ net → (move : ℕ)
      → move ≡ net_move net s r k → e.block ≡ move / width → not (keeps_by (set t.net.counts.latches) net (lits_in e.words (move % width))) ≡ fault
  unfolding reply_broken net_game move_in
  lane_fault inside k is below e same move m block =
      ap not
      (ap (λ (n : ℕ). keeps_by (set n) net (lits_in e.words (move % width))) t.net.latches
      ∙ lane_keeps net t.net.order (set (net_latches net)) s r k e.words (move / width) (move % width) holds (omega arith) (omega (arith, m)))
      ∙ sym (ap (λ (b : Bool). b && not good) (ap (λ (n : ℕ). set n s) (sym t.net.latches) ∙ inside)
      ∙ ap not
      (ap (λ (j : ℕ). ltb j (2 ^ net_controls net) && kept j) (sym (is ∙ reply-is))
      ∙ ap (λ (b : Bool). b && kept k) (lt-ltb k (2 ^ net_controls net) below)))
    where
      kept : ℕ → Bool
      kept j = keeps (net_game net) (set (net_latches net)) s r j

      good : Bool
      good = ltb (stored (net_latches net) (net_readings net) (net_controls net)) (2 ^ net_controls net)
          && kept (stored (net_latches net) (net_readings net) (net_controls net))

      holds : ∥ Holding net (move / width) e.words ∥₁
      holds = subst₂ (λ (l : List ℕ) (b : ℕ). ∥ Holding l b e.words ∥₁) same block e.holding

-- at the place of a state and a reading, with those in front of it seen
module _ (net region : List ℕ) (kind : ℕ) (table : List ℕ) (s r states readings : ℕ) (all : states ≡ 2 ^ net_latches net)
    (wide : readings ≡ 2 ^ net_readings net) where
  abbrev at : ℕ → Bool
  at = place_fault net region kind table

  module _ (reading : r < readings) where
    there : at (s * 2 ^ net_readings net + r) ≡ reply_fault net region kind table s r
    there =
        let low : r < 2 ^ net_readings net = omega arith in
        ap₂ (reply_fault net region kind table) (digits_div s low) (digits_mod s low)

    pub fault_found :
        (place : ℕ) → place ≡ s * readings + r → s < states → Behind at (s * 2 ^ net_readings net + r) → reply_fault net region kind table s r ≡ true
        → Some place ≡ first_reply_fault net region kind table
    fault_found place e state behind fault =
        let low : r < 2 ^ net_readings net = omega arith in
        let high : s < 2 ^ net_latches net = omega arith in
        let here : place ≡ s * 2 ^ net_readings net + r = e ∙ ap (λ (n : ℕ). s * n + r) wide in
        ap Some here
        ∙ found_lowest at (2 ^ (net_latches net + net_readings net)) (s * 2 ^ net_readings net + r)
        (omega (arith, pow-add 2 (net_latches net) (net_readings net), digits_lt {q = s} {m = 2 ^ net_latches net} {r = r} {c = 2 ^ net_readings net} high low))
        (there ∙ fault) behind.none

    pub fault_next :
        Behind at (s * 2 ^ net_readings net + r) → reply_fault net region kind table s r ≡ false → Behind at (s * 2 ^ net_readings net + (r + 1))
    fault_next behind fault = behind_next at (s * 2 ^ net_readings net + r) _ behind (there ∙ fault) (omega arith)

  pub fault_none : states ≤ s → Behind at (s * 2 ^ net_readings net) → None ≡ first_reply_fault net region kind table
  fault_none end behind =
      none_lowest at (2 ^ (net_latches net + net_readings net))
      (λ j h. behind.none j
      (omega (arith, pow-add 2 (net_latches net) (net_readings net), mul-le-mul_right {m = 2 ^ net_latches net} {n = s} (2 ^ net_readings net) (omega arith))))

module _ (c : Circuit) (net : List ℕ) (is : net ≡ net_of c) where
  module _ (region : List ℕ) (kind : ℕ) (table : List ℕ) where
    reply_search : (g : Game) (L U C : ℕ) → ℕ
    reply_search g L U C =
        least (λ i. reply_broken g (holds_state region L) (stored_reply kind table L U C) (i / 2 ^ U) (i % 2 ^ U)) (2 ^ (L + U))

    -- the search over the flat index
    pub broken_reply-is : least (place_fault net region kind table) (2 ^ (net_latches net + net_readings net)) ≡ broken_reply c region kind table
    unfolding broken_reply circuit_game net_of net_latches net_readings net_controls reply_search least
    broken_reply-is =
        ap (λ (m : List ℕ). least (place_fault m region kind table) (2 ^ (net_latches m + net_readings m))) is
        ∙ ap (λ (g : Game). reply_search g (latch_count c) (uncontrollable_count c) (controllable_count c)) (net_game_lem c)
        ∙ ap
        (least (λ i. reply_broken (circuit_game c) (holds_state region (latch_count c))
        (stored_reply kind table (latch_count c) (uncontrollable_count c) (controllable_count c)) (i / 2 ^ uncontrollable_count c)
        (i % 2 ^ uncontrollable_count c)))
        (pow-add 2 (latch_count c) (uncontrollable_count c))

  module _ (table : List ℕ) where
    pub broken_attack-is : least (attack_fault net table) (2 ^ net_latches net) ≡ broken_attack c table
    unfolding broken_attack circuit_game net_of net_latches
    broken_attack-is =
        ap (λ (m : List ℕ). least (attack_fault m table) (2 ^ net_latches m)) is
        ∙ ap (λ (g : Game). least (attack_broken g (stored_rank table (latch_count c)) (stored_attack table (latch_count c))) (2 ^ latch_count c))
        (net_game_lem c)
