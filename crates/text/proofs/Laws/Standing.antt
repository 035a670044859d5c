-- Gates that stand in order already (01, "The file", rule 4: operands above their gates): none reaches itself, and in order of evaluation they
-- stand as before (02, T-01: step answers for files already taken don't change). Assumes nothing.
use Prim.Native.Nat.{ℕ, ◌<◌, ◌≤◌}
use native.Mathlib.Omega.{arith}
use mathlib.Core.List.{List, ◌++◌, map}
use mathlib.Core.Logic.{◌⊎◌, inl, inr}
use mathlib.Core.Path.{◌≡◌, sym, ap, ◌∙◌, subst}
use lib.ListN.{length, take, drop, take-append-drop}
use lib.Seq.{length-take-le, get_or-take}
use Rattle.below.proofs.Laws.Table.{map_table, table_get_or}
use Rattle.circuit.specs.Circuit.{Gate, gate_at}
use Rattle.circuit.specs.Literal.{variable}
use Rattle.order.specs.Reaches.{Reaches, at_once, through}
use Rattle.order.specs.Uses.{Uses}
use Rattle.order.proofs.Laws.Meets.{uses_below}
use Rattle.order.proofs.Laws.Placed.{order_as_it_stands}
use Rattle.text.specs.Above.{Operands}
use Rattle.text.specs.GateUses.{uses_of, evaluation}
use Rattle.text.specs.InList.{All, Pairs, In}
use Rattle.text.specs.WellFormed.{Known, ReachesItself}
use Rattle.text.proofs.Laws.Above.{operands_at}
use Rattle.text.proofs.Laws.Circle.{reaches_below}
use Rattle.text.proofs.Laws.GateUses.{gate_variable, no_gate, Defines, UsedAs, as_left, as_right, used_as}
use Rattle.text.proofs.Laws.InTurn.{in_turn}
use Rattle.text.proofs.Laws.Lists.{Differ, in_at, at_in, in_left, in_right, in_cases, in_map, map_in, all_of, pairs_across}

module _ (sources : List ℕ) (gates : List Gate) (once : Pairs Differ (sources ++ map gate_variable gates)) (above : Operands sources gates) where
  lower : (i j : ℕ) → i < length gates → Uses (uses_of gates) (length gates) i j → j < i
  unfolding gate_at
  lower i j h u = by (used_as gates i h j u)
    where
      below : (l : ℕ) → Known (sources ++ map gate_variable (take i gates)) l → Defines gates l j → j < i
      below l (inl small) d = absurd (omega (arith, small, d.literal))
      below l (inr w) d = cases (in_cases sources (map gate_variable (take i gates)) (variable l) w)
        where
          cases : In sources (variable l) ⊎ In (map gate_variable (take i gates)) (variable l) → j < i
          cases (inl v) =
              absurd (pairs_across Differ sources (map gate_variable gates) (variable l) (gate_variable (gate_at gates j)) once v
              (in_map gate_variable gates (gate_at gates j) (in_at no_gate gates j d.within)) (sym d.is))
          cases (inr v) =
              let (g, there, e) = map_in gate_variable (take i gates) (variable l) v in
              let (m, less, is) = at_in no_gate (take i gates) g there in
              let less-i : m < i = omega (arith, less, length-take-le i gates (omega (arith, h))) in
              let first : j ≤ m = d.first m (ap gate_variable (sym (get_or-take i gates m no_gate less-i) ∙ is) ∙ e) in
              omega (arith, first, less-i)

      by : UsedAs gates i h j → j < i
      by (as_left d) = below (gate_at gates i).left (operands_at sources gates above i h).0 d
      by (as_right d) = below (gate_at gates i).right (operands_at sources gates above i h).1 d

  -- what stands above is defined
  wider : (i l : ℕ) → Known (sources ++ map gate_variable (take i gates)) l → Known (sources ++ map gate_variable gates) l
  wider i l (inl small) = inl small
  wider i l (inr w) = inr (by (in_cases sources (map gate_variable (take i gates)) (variable l) w))
    where
      by : In sources (variable l) ⊎ In (map gate_variable (take i gates)) (variable l) → In (sources ++ map gate_variable gates) (variable l)
      by (inl u) = in_left sources (map gate_variable gates) (variable l) u
      by (inr u) =
          let (g, there, e) = map_in gate_variable (take i gates) (variable l) u in
          let stands : In gates g = subst (λ (gs : List Gate). In gs g) (take-append-drop i gates) (in_left (take i gates) (drop i gates) g there) in
          in_right sources (map gate_variable gates) (variable l) (subst (In (map gate_variable gates)) e (in_map gate_variable gates g stands))

  pub standing_operands : All (λ (g : Gate). Known (sources ++ map gate_variable gates) g.left × Known (sources ++ map gate_variable gates) g.right) gates
  unfolding gate_at
  standing_operands =
      all_of (λ (g : Gate). Known (sources ++ map gate_variable gates) g.left × Known (sources ++ map gate_variable gates) g.right) no_gate gates
      (λ i h. let (l, r) = operands_at sources gates above i h in (wider i (gate_at gates i).left l, wider i (gate_at gates i).right r))

  reaches_lower : {i j : ℕ} → i < length gates → Reaches (uses_of gates) (length gates) i j → j < i
  reaches_lower {i} {j} h (at_once u) = lower i j h u
  reaches_lower {i} {j} h (through {j = m} u r) =
      let first : m < i = lower i m h u in
      let then : j < m = reaches_lower (uses_below u) r in
      omega (arith, first, then)

  pub standing_no_circle : (i : ℕ) → ReachesItself gates i → ⊥
  standing_no_circle i r = let less : i < i = reaches_lower (reaches_below r) r in omega (arith, less)

  pub standing_as_before : in_turn gates ≡ gates
  unfolding evaluation gate_at
  standing_as_before =
      ap (map (gate_at gates)) (order_as_it_stands (uses_of gates) (length gates) lower)
      ∙ map_table (gate_at gates) (λ i. i) (length gates)
      ∙ table_get_or gates no_gate
