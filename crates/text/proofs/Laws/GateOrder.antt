-- The gates of a file's circuit (02, T-01: evaluation follows dependency; step answers for files already taken don't change): they are the gates of
-- the file, each behind those that it uses, and the file's lines come back. Assumes nothing.
use Prim.Native.Nat.{ℕ}
use mathlib.Core.List.{List, ◌++◌, map, Memᴰ}
use mathlib.Core.Logic.{◌↔◌, inl, inr}
use mathlib.Core.Path.{◌≡◌}
use lib.ListN.{length}
use Rattle.circuit.specs.Circuit.{Gate, gate_lines}
use Rattle.circuit.specs.Literal.{variable}
use Rattle.text.specs.Above.{Operands}
use Rattle.text.specs.InList.{All, Pairs}
use Rattle.text.specs.TextFile.{TextFile, circuit_of}
use Rattle.text.specs.WellFormed.{Known, ReachesItself, of_inputs_and_latches, defined_in}
use Rattle.text.proofs.Laws.GateUses.{gate_variable}
use Rattle.text.proofs.Laws.InTurn.{turn_long, lines_back, turn_all, same_members, turn-defines, turn_above, turn_once}
use Rattle.text.proofs.Laws.Lists.{Differ}
use Rattle.text.proofs.Laws.Standing.{standing_operands, standing_no_circle, standing_as_before}

-- all that the file defines, gates in order of evaluation
abbrev pub defined_in_turn : TextFile → List ℕ
defined_in_turn f = of_inputs_and_latches f ++ map gate_variable (circuit_of f).gates

module _ (f : TextFile) (never : (i : ℕ) → ReachesItself f.gates i → ⊥) where
  pub gate_lines_back : gate_lines (circuit_of f) ≡ f.gates
  unfolding gate_lines circuit_of
  gate_lines_back = lines_back f.gates never

  pub same_count : length (circuit_of f).gates ≡ length f.gates
  unfolding circuit_of
  same_count = turn_long f.gates never

  pub same_gates : (g : Gate) → Memᴰ g (circuit_of f).gates ↔ Memᴰ g f.gates
  unfolding circuit_of
  same_gates = same_members f.gates never

  pub gates_all : (P : Gate → Type 0) → All P f.gates → All P (circuit_of f).gates
  unfolding circuit_of
  gates_all P a = turn_all f.gates never P a

  -- each gate stands behind those that it uses
  pub gates_above : All (λ (g : Gate). Known (defined_in f) g.left × Known (defined_in f) g.right) f.gates
      → Operands (of_inputs_and_latches f) (circuit_of f).gates
  unfolding circuit_of
  gates_above known = turn_above f.gates never (of_inputs_and_latches f) known

  pub defined_once : Pairs Differ (defined_in f) → Pairs Differ (defined_in_turn f)
  unfolding circuit_of
  defined_once once = turn_once f.gates never (of_inputs_and_latches f) once

  pub known-in_turn : (l : ℕ) → Known (defined_in f) l → Known (defined_in_turn f) l
  unfolding circuit_of
  known-in_turn l (inl small) = inl small
  known-in_turn l (inr i) = inr (turn-defines f.gates never (of_inputs_and_latches f) (variable l) i)

-- gates whose operands stand above them already: the file is still as it has to be, and its circuit has them in the order of their lines
module _ (f : TextFile) (once : Pairs Differ (defined_in f)) (above : Operands (of_inputs_and_latches f) f.gates) where
  pub in_order_operands : All (λ (g : Gate). Known (defined_in f) g.left × Known (defined_in f) g.right) f.gates
  in_order_operands = standing_operands (of_inputs_and_latches f) f.gates once above

  pub in_order_no_circle : (i : ℕ) → ReachesItself f.gates i → ⊥
  in_order_no_circle = standing_no_circle (of_inputs_and_latches f) f.gates once above

  pub in_order_as_before : (circuit_of f).gates ≡ f.gates
  unfolding circuit_of
  in_order_as_before = standing_as_before (of_inputs_and_latches f) f.gates once above
