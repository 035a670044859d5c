-- What is written by the solver's answer is the listing of the circuit. Assumes nothing.
use Prim.Native.Nat.{ℕ, ◌+◌, ◌*◌, ◌/◌, ◌%◌, ◌^◌, ◌<◌, ◌≤◌}
use native.Mathlib.Nat.{mul-le-mul}
use native.Mathlib.Omega.{arith}
use mathlib.Core.Bool.{Bool, true, false, cond, not}
use mathlib.Core.List.{List, [], ◌∷◌, ◌++◌}
use mathlib.Core.Path.{◌≡◌, sym, ap, ap₂, ◌∙◌}
use lib.Arith.{digits_div, digits_lt, digits_mod}
use lib.Dec.{eqb, ltb}
use lib.ListN.{get_or}
use lib.Pow.{pow_mono}
use borrow.Author.Tests.{lt-ltb}
use Rattle.std.proofs.lemmas.Bool.Decides.{nat_tests}
use Rattle.below.proofs.Laws.Table.{get_or_table, table_same}
use Rattle.bits.specs.Bit.{one_if}
use Rattle.bits.specs.InTurn.{in_turn}
use Rattle.bits.proofs.Laws.InTurn.{in_turn_same}
use Rattle.circuit.specs.Circuit.{Circuit, latch_count, uncontrollable_count, controllable_count}
use Rattle.circuit.specs.Counts.{counts_of}
use Rattle.circuit.specs.Limits.{base}
use Rattle.circuit.specs.declared.counts.Counts.{Counts}
use Rattle.circuit.proofs.Laws.Numbers.{numbers-whole}
use Rattle.decimal.proofs.Laws.InTurn.{flat_map_table}
use Rattle.game.specs.CircuitGame.{circuit_game, is_realizable}
use Rattle.game.specs.Game.{Game}
use Rattle.game.specs.Listing.{reply_line, attack_line, listing_of}
use Rattle.game.specs.Rank.{rank, in_region}
use Rattle.game.specs.Reply.{reply}
use Rattle.keeping.specs.RankList.{ranks_in}
use Rattle.region.proofs.Laws.Verdict.{realizable_at_zero}
use Rattle.solver.specs.RankTable.{rank_table}
use Rattle.solver.specs.Solution.{reply_table, solution_of}
use Rattle.solver.specs.declared.Solution.{Solution}
use Rattle.solver.proofs.Laws.RankTable.{rank_in_table}
use Rattle.solver.proofs.Laws.Solution.{attack_in_table}
use Rattle.text.specs.Written.{number_line}
use Rattle.listing.specs.Page.{verdict_word, listing_text}
use Rattle.listing.specs.Inner.SolvedText.{inside, reply_text, attack_text, numbers, solved_text}

zero_or_not : (n : ℕ) → eqb n 0 ≡ not (ltb 0 n)
zero_or_not n = grind (arith, nat_tests)

-- a reply stands at index s × 2^U + reading
reply_in_table :
    (g : Game) (s r : ℕ) → g.states ≤ 2 ^ base.latches → g.readings ≤ 2 ^ base.uncontrollable → s < g.states → r < g.readings
    → get_or (reply_table g) (s * g.readings + r) 0 ≡ reply g s r
unfolding reply_table
reply_in_table g s r few narrow h l =
    let place : s * g.readings + r < g.states * g.readings = digits_lt h l in
    let within : g.states * g.readings ≤ 2 ^ base.latches * 2 ^ base.uncontrollable = mul-le-mul few narrow in
    get_or_table _ (2 ^ base.latches * 2 ^ base.uncontrollable) (s * g.readings + r) 0 (omega arith)
    ∙ ap (λ (b : Bool). cond b (reply g ((s * g.readings + r) / g.readings) ((s * g.readings + r) % g.readings)) 0)
    (lt-ltb (s * g.readings + r) (g.states * g.readings) place)
    ∙ ap₂ (reply g) (digits_div s l) (digits_mod s l)

module _ (g : Game) (few : g.states ≤ 2 ^ base.latches) where
  inside_is : (s : ℕ) → s < g.states → inside (rank_table g) s ≡ in_region g s
  unfolding inside in_region
  inside_is s h = ap (λ (n : ℕ). eqb n 0) (rank_in_table g few s h) ∙ zero_or_not (rank g s)

  reply_line_lem :
      g.readings ≤ 2 ^ base.uncontrollable → (s : ℕ) → s < g.states → reply_text (solution_of g) g.readings s ≡ number_line (reply_line g s)
  unfolding reply_text reply_line solution_of
  reply_line_lem narrow s h =
      ap₂ (λ (b : Bool) (l : List ℕ). number_line (s ∷ one_if b ∷ l)) (inside_is s h)
      (table_same _ (reply g s) g.readings (λ r l. reply_in_table g s r few narrow h l))

  attack_line_lem : (s : ℕ) → s < g.states → attack_text (solution_of g) s ≡ number_line (attack_line g s)
  unfolding attack_text attack_line solution_of
  attack_line_lem s h = ap₂ (λ (n m : ℕ). number_line (s ∷ n ∷ m ∷ [])) (rank_in_table g few s h) (attack_in_table g few s h)

  lines_are :
      g.readings ≤ 2 ^ base.uncontrollable → (b : Bool)
      → cond b (in_turn (reply_text (solution_of g) g.readings) g.states) (in_turn (attack_text (solution_of g)) g.states)
      ≡ in_turn (λ s. number_line (cond b (reply_line g s) (attack_line g s))) g.states
  lines_are narrow true = in_turn_same _ _ g.states (reply_line_lem narrow)
  lines_are narrow false = in_turn_same _ _ g.states attack_line_lem

module _ (c : Circuit) (few : latch_count c ≤ base.latches) (narrow : uncontrollable_count c ≤ base.uncontrollable) where
  few_states : (circuit_game c).states ≤ 2 ^ base.latches
  unfolding circuit_game
  few_states = pow_mono few

  few_readings_lem : (circuit_game c).readings ≤ 2 ^ base.uncontrollable
  unfolding circuit_game
  few_readings_lem = pow_mono narrow

  verdict-is : inside (rank_table (circuit_game c)) 0 ≡ is_realizable c
  unfolding inside ranks_in
  verdict-is = realizable_at_zero c few_states

  states_are_lem : numbers (latch_count c) ≡ (circuit_game c).states
  unfolding circuit_game
  states_are_lem = numbers-whole (latch_count c) few

  readings_are_lem : numbers (uncontrollable_count c) ≡ (circuit_game c).readings
  unfolding circuit_game
  readings_are_lem = numbers-whole (uncontrollable_count c) (omega (arith, narrow))

  solved_listing : solved_text (counts_of c) (solution_of (circuit_game c)) ≡ listing_text (listing_of c)
  unfolding solved_text listing_text listing_of counts_of solution_of
  solved_listing =
      rw (verdict-is, states_are_lem, readings_are_lem)
      (ap (λ (l : List ℕ). verdict_word (is_realizable c) ++ number_line (latch_count c ∷ uncontrollable_count c ∷ controllable_count c ∷ []) ++ l)
      (lines_are (circuit_game c) few_states few_readings_lem (is_realizable c) ∙ sym (flat_map_table number_line _ (circuit_game c).states)))

pub solved_is_listing :
    (c : Circuit) (n : Counts) (s : Solution) → n ≡ counts_of c → s ≡ solution_of (circuit_game c) → latch_count c ≤ base.latches
    → uncontrollable_count c ≤ base.uncontrollable → solved_text n s ≡ listing_text (listing_of c)
solved_is_listing c n s e f few narrow = (λ x. solved_text (e x) (f x)) ∙ solved_listing c few narrow
