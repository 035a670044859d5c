-- What a circuit's counts and the solution of its game say: how many states, readings and controls there are, the tables, and by the rank of
-- state 0 the verdict. Assumes nothing.
use Rattle.std.proofs.Common.{ℕ, ◌*◌, ◌^◌, ◌≤◌, min, Bool, true, false, cond, List, ◌≡◌, refl, sym, ap, ◌∙◌, subst, eqb, get_or, arith}
use native.Mathlib.Nat.{mul-le-mul}
use lib.Pow.{pow_mono}
use borrow.Author.Tests.{eq-eqb, ne_eqb}
use Rattle.circuit.specs.Circuit.{Circuit, latch_count, uncontrollable_count, controllable_count, too_many, inputs_that}
use Rattle.circuit.specs.Limits.{base}
use Rattle.circuit.specs.Stored.{empty_circuit, solvable}
use Rattle.circuit.proofs.Laws.Numbers.{numbers-whole}
use Rattle.circuit.proofs.Laws.Solvable.{few_are}
use Rattle.game.specs.CircuitGame.{circuit_game, is_realizable}
use Rattle.region.proofs.Laws.Verdict.{realizable_at_zero}
use Rattle.circuit.specs.Counts.{counts_of}
use Rattle.solver.specs.RankTable.{rank_table}
use Rattle.solver.specs.Solution.{reply_table, attack_table, solution_of}
use Rattle.solver.specs.declared.Solution.{Solution}
use Rattle.circuit.specs.declared.counts.Counts.{Counts}
use Rattle.writer.specs.Inner.Solved.{Few, Solved}

-- a circuit that is solved has few controllable inputs
no_controls : controllable_count empty_circuit ≡ 0
unfolding controllable_count inputs_that empty_circuit
no_controls = refl

pub few_controls_lem : (c : Circuit) (n : Counts) → n ≡ counts_of (solvable c) → n.controls ≤ base.controllable
unfolding counts_of solvable too_many
few_controls_lem c n counts = subst (λ (m : Counts). m.controls ≤ base.controllable) (sym counts) (by (too_many base c) refl)
  where
    by : (b : Bool) → too_many base c ≡ b → controllable_count (cond b empty_circuit c) ≤ base.controllable
    by true e = omega (arith, no_controls)
    by false e = (few_are (uncontrollable_count c) (controllable_count c) e).1

-- as many numbers as n bits make are few
few_numbers : (n m most : ℕ) → m ≡ 2 ^ min n base.latches → n ≤ most → m ≤ 2 ^ most
few_numbers n m most e h = omega (arith, e, pow_mono {i = min n base.latches} {j = most} (omega arith))

pub few_states_lem : (n : Counts) → Few n → (states : ℕ) → states ≡ 2 ^ min n.latches base.latches → states ≤ 2 ^ base.latches
few_states_lem n few states e = few_numbers n.latches states base.latches e few.latches

pub few_replies :
    (n : Counts) → Few n → (states readings : ℕ) → states ≡ 2 ^ min n.latches base.latches → readings ≡ 2 ^ min n.readings base.latches
    → states * readings ≤ 2 ^ base.latches * 2 ^ base.uncontrollable
few_replies n few states readings e f =
    mul-le-mul (few_numbers n.latches states base.latches e few.latches) (few_numbers n.readings readings base.uncontrollable f few.readings)

module _ (c : Circuit) (n : Counts) (s : Solution) (few : Few n) (solved : Solved c n s) where
  pub states_are : (m : ℕ) → m ≡ 2 ^ min n.latches base.latches → m ≡ 2 ^ latch_count c
  unfolding counts_of
  states_are m e = e ∙ numbers-whole n.latches few.latches ∙ ap (λ (k : Counts). 2 ^ k.latches) solved.counts_are

  pub readings_are : (m : ℕ) → m ≡ 2 ^ min n.readings base.latches → m ≡ 2 ^ uncontrollable_count c
  unfolding counts_of
  readings_are m e =
      e ∙ numbers-whole n.readings (omega (arith, few.readings)) ∙ ap (λ (k : Counts). 2 ^ k.readings) solved.counts_are

  pub controls_are : n.controls ≡ controllable_count c
  unfolding counts_of
  controls_are = ap (λ (k : Counts). k.controls) solved.counts_are

  pub few_states : (circuit_game c).states ≤ 2 ^ base.latches
  unfolding circuit_game counts_of
  few_states = pow_mono {i = latch_count c} {j = base.latches} (omega (arith, few.latches, ap (λ (k : Counts). k.latches) solved.counts_are))

  pub few_readings : 2 ^ uncontrollable_count c ≤ 2 ^ base.uncontrollable
  unfolding counts_of
  few_readings =
      pow_mono {i = uncontrollable_count c} {j = base.uncontrollable}
      (omega (arith, few.readings, ap (λ (k : Counts). k.readings) solved.counts_are))

  pub ranks_are : s.ranks ≡ rank_table (circuit_game c)
  unfolding solution_of
  ranks_are = ap (λ (t : Solution). t.ranks) solved.solution_is

  pub replies_are : s.replies ≡ reply_table (circuit_game c)
  unfolding solution_of
  replies_are = ap (λ (t : Solution). t.replies) solved.solution_is

  pub attacks_are : s.attacks ≡ attack_table (circuit_game c)
  unfolding solution_of
  attacks_are = ap (λ (t : Solution). t.attacks) solved.solution_is

  at_zero : eqb (get_or s.ranks 0 0) 0 ≡ is_realizable c
  at_zero = ap (λ (l : List ℕ). eqb (get_or l 0 0) 0) ranks_are ∙ realizable_at_zero c few_states

  pub zero_realizable : get_or s.ranks 0 0 ≡ 0 → is_realizable c ≡ true
  zero_realizable e = sym at_zero ∙ eq-eqb (get_or s.ranks 0 0) 0 e

  pub ranked_unrealizable : (get_or s.ranks 0 0 ≡ 0 → ⊥) → is_realizable c ≡ false
  ranked_unrealizable d = sym at_zero ∙ ne_eqb (get_or s.ranks 0 0) 0 d

pub ruleset few = (few_states_lem, few_replies)
