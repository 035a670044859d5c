-- The games that the solver plays: that of a circuit's net, or of the empty net where it has too many inputs of a sort; and the list of the
-- game's replies. Assumes nothing.
use Prim.Native.Nat.{ℕ, ◌*◌, ◌/◌, ◌%◌, ◌^◌, ◌<◌}
use native.Mathlib.Omega.{arith}
use native.Mathlib.Decide.{dec_lt}
use mathlib.Core.Bool.{Bool, true, false, cond, ◌||◌}
use mathlib.Core.List.{List, [], ◌∷◌}
use mathlib.Core.Path.{◌≡◌, refl, sym, ap, ◌∙◌, subst}
use lib.Dec.{ltb}
use borrow.Author.Tests.{le-ltb}
use Rattle.below.specs.Table.{table}
use Rattle.below.proofs.Laws.Table.{table_same}
use Rattle.circuit.specs.Circuit.{Circuit, latch_count, uncontrollable_count, controllable_count, inputs_that}
use Rattle.circuit.specs.Limits.{base}
use Rattle.circuit.specs.Literal.{constant}
use Rattle.circuit.specs.Stored.{empty_circuit, solvable}
use Rattle.circuit.proofs.Laws.Solvable.{many_solved_empty, few_solved, few_are}
use Rattle.game.specs.CircuitGame.{circuit_game}
use Rattle.game.specs.Reply.{reply}
use Rattle.net.specs.InOrder.{InOrder}
use Rattle.net.specs.Net.{net_controls, net_readings, net_latches}
use Rattle.net.specs.NetOf.{net_of, net_literal, operands_of}
use Rattle.net.specs.Sized.{Sized}
use Rattle.net.proofs.Laws.InOrder.{Room, net_in_order}
use Rattle.solver.specs.Over.{reply_over}
use Rattle.solver.specs.RankTable.{rank_table}
use Rattle.solver.specs.Solution.{reply_table}
use Rattle.solver.specs.Inner.Moves.{places}
use Rattle.game.specs.NetGame.{net_game}
use Rattle.solver.specs.Inner.SolvableNet.{solvable_net}
use Rattle.solver.proofs.Laws.Moves.{state_of, reading_of, few_states}
use Rattle.game.proofs.Laws.NetGame.{net_game_lem}
use Rattle.solver.proofs.Laws.NetGame.{net_proper}
use Rattle.solver.proofs.Laws.Over.{reply_over-is-reply}

-- the replies found at each place are the game's
pub replies_end : (net ranks : List ℕ) → Sized net → ranks ≡ rank_table (net_game net)
    → table (λ i. cond (ltb i (places net)) (reply_over (net_game net) ranks (i / 2 ^ net_readings net) (i % 2 ^ net_readings net)) 0)
    (2 ^ base.latches * 2 ^ base.uncontrollable) ≡ reply_table (net_game net)
unfolding reply_table net_game places
replies_end net ranks sized e = table_same _ _ (2 ^ base.latches * 2 ^ base.uncontrollable) (λ i h. elim (dec_lt i n) [
  | yes l ↦ ap (λ (x : ℕ). cond (ltb i n) x 0) (within i l)
  | no l ↦ rw (le-ltb i n (omega arith))
])
  where
    n : ℕ
    n = 2 ^ net_latches net * 2 ^ net_readings net

    within : (i : ℕ) → i < n → reply_over (net_game net) ranks (i / 2 ^ net_readings net) (i % 2 ^ net_readings net) ≡ reply (net_game net)
        (i / 2 ^ net_readings net) (i % 2 ^ net_readings net)
    within i h = ap (λ (l : List ℕ). reply_over (net_game net) l (i / 2 ^ net_readings net) (i % 2 ^ net_readings net)) e
        ∙ reply_over-is-reply (net_game net) (net_proper net) (few_states net sized) (i / 2 ^ net_readings net) (state_of net i h) (i % 2 ^ net_readings net)
        (reading_of net i h)

abbrev pub empty : List ℕ
empty = 0 ∷ 0 ∷ 0 ∷ 0 ∷ []

empty-is : empty ≡ net_of empty_circuit
unfolding net_of empty_circuit controllable_count uncontrollable_count latch_count inputs_that net_literal constant operands_of
empty-is = refl

empty_room : Room empty_circuit
unfolding empty_circuit
empty_room = record { inputs = omega arith; latches = omega arith; gates = omega arith }

pub empty_sized : Sized empty
unfolding net_readings net_controls
empty_sized = record { order = subst InOrder (sym empty-is) (net_in_order empty_circuit empty_room); few_readings = omega arith; few_controls = omega arith }

-- by the counts of a net
module _ (net : List ℕ) (order : InOrder net) (u k : ℕ) (others : u ≡ net_readings net) (chosen : k ≡ net_controls net) where
  counted : (ltb base.uncontrollable u || ltb base.controllable k) ≡
      (ltb base.uncontrollable (net_readings net) || ltb base.controllable (net_controls net))
  counted = λ x. ltb base.uncontrollable (others x) || ltb base.controllable (chosen x)

  pub many_empty : (ltb base.uncontrollable u || ltb base.controllable k) ≡ true → empty ≡ solvable_net net
  unfolding solvable_net
  many_empty e = sym (ap (λ (b : Bool). cond b empty net) (sym counted ∙ e))

  module _ (e : (ltb base.uncontrollable u || ltb base.controllable k) ≡ false) where
    pub few_itself : net ≡ solvable_net net
    unfolding solvable_net
    few_itself = sym (ap (λ (b : Bool). cond b empty net) (sym counted ∙ e))

    pub few_sized : Sized net
    unfolding net_readings net_controls
    few_sized = record { order = order; few_readings = omega (arith, (few_are u k e).0); few_controls = omega (arith, (few_are u k e).1) }

-- of a circuit
module _ (c : Circuit) where
  counts_are_lem : (net_readings (net_of c) ≡ uncontrollable_count c) × (net_controls (net_of c) ≡ controllable_count c)
  unfolding net_readings net_controls net_of
  counts_are_lem = (refl, refl)

  pub solvable_game : net_game (solvable_net (net_of c)) ≡ circuit_game (solvable c)
  unfolding solvable_net
  solvable_game = by (ltb base.uncontrollable (net_readings (net_of c)) || ltb base.controllable (net_controls (net_of c))) refl
    where
      by : (b : Bool) → (ltb base.uncontrollable (net_readings (net_of c)) || ltb base.controllable (net_controls (net_of c))) ≡ b
          → net_game (cond b empty (net_of c)) ≡ circuit_game (solvable c)
      by true e = ap net_game empty-is ∙ net_game_lem empty_circuit
          ∙ ap circuit_game (many_solved_empty c (net_readings (net_of c)) (net_controls (net_of c)) counts_are_lem.0 counts_are_lem.1 e)
      by false e = net_game_lem c ∙ ap circuit_game (few_solved c (net_readings (net_of c)) (net_controls (net_of c)) counts_are_lem.0 counts_are_lem.1 e)
