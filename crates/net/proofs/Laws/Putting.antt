-- The numbers of a net put one after the other: what is left to put, over the numbers and names so far, gives the whole. Assumes nothing.
use Prim.Native.Nat.{ℕ, suc, ◌+◌, ◌<◌, ◌≤◌, min}
use native.Mathlib.Omega.{arith}
use native.Mathlib.Numerals.{add-one}
use mathlib.Core.List.{List, [], ◌∷◌, map}
use mathlib.Core.Path.{◌≡◌}
use lib.ListN.{length, get_or, set, take, drop, length-take}
use lib.Seq.{sets, get_or-take}
use Rattle.below.proofs.Laws.Table.{drop_table, drop_table_all}
use Rattle.circuit.specs.Circuit.{Latch, Gate}
use Rattle.circuit.specs.Limits.{base}
use Rattle.circuit.specs.Literal.{variable}
use Rattle.circuit.specs.Stored.{literal_of, latches_of, gates_of, lent, on_lines, meant}
use Rattle.circuit.specs.declared.Circuit.{Circuit as Value}
use Rattle.net.specs.NetOf.{Names, name, net_literal, name_gates, operands_of}
use Rattle.net.proofs.Laws.Room.{few_gates, few_inputs, few_latches, front_within}

module _ (v : Value) where
  gate_at : ℕ → Gate
  gate_at i =
      record {
        own = literal_of (get_or (take v.gates v.gate) i 0);
        left = literal_of (get_or v.left i 0);
        right = literal_of (get_or v.right i 0);
      }

  gate_here : (i : ℕ) → i < length (take v.gates v.gate) → drop i (meant v).gates ≡ gate_at i ∷ drop (i + 1) (meant v).gates
  unfolding meant on_lines lent gates_of gate_at
  gate_here i h = rw add-one (drop_table gate_at (length (take v.gates v.gate)) i h)

  gate_none : (i : ℕ) → length (take v.gates v.gate) ≤ i → drop i (meant v).gates ≡ []
  unfolding meant on_lines lent gates_of gate_at
  gate_none i h = drop_table_all gate_at (length (take v.gates v.gate)) i h

  -- a gate puts its two operands, and takes the next name
  module _ (i at w : ℕ) (numbers : List ℕ) (names : Names) (h : i < length (take v.gates v.gate)) where
    pub operands_next : sets numbers at (operands_of (drop i (meant v).gates) w names)
        ≡ sets (set (set numbers at (net_literal names (literal_of (get_or v.left i 0)))) (at + 1) (net_literal names (literal_of (get_or v.right i 0))))
        (at + 2)
        (operands_of (drop (i + 1) (meant v).gates) (w + 1) (name (variable (literal_of (get_or (take v.gates v.gate) i 0))) w names))
    unfolding operands_of gate_at
    operands_next = rw (gate_here i h, two, add-one at, add-one w)
      where
        two : at + 2 ≡ suc (suc at)
        two = omega arith

  pub gates_next : (i w : ℕ) (names : Names) → i < length (take v.gates v.gate)
      → name_gates (drop i (meant v).gates) w names
      ≡ name_gates (drop (i + 1) (meant v).gates) (w + 1) (name (variable (literal_of (get_or (take v.gates v.gate) i 0))) w names)
  unfolding name_gates gate_at
  gates_next i w names h = rw (gate_here i h, add-one w)

  module _ (i : ℕ) (h : length (take v.gates v.gate) ≤ i) where
    pub operands_end : (at first : ℕ) (numbers : List ℕ) (names : Names) → sets numbers at (operands_of (drop i (meant v).gates) first names) ≡ numbers
    unfolding operands_of
    operands_end at first numbers names = rw (gate_none i h)

    pub gates_end : (first : ℕ) (names : Names) → name_gates (drop i (meant v).gates) first names ≡ names
    unfolding name_gates
    gates_end first names = rw (gate_none i h)

  latch_at : ℕ → Latch
  latch_at i = record { own = literal_of (get_or (take v.latches v.latch) i 0); next = literal_of (get_or v.next i 0) }

  -- a latch puts its next-state literal
  module _ (long : length v.latch ≡ base.latches) (next_long : length v.next ≡ base.latches) (i : ℕ) (numbers : List ℕ) (names : Names) where
    pub nexts_next : i < length (take v.latches v.next)
        → sets numbers (4 + i) (map (λ (l : Latch). net_literal names l.next) (drop i (meant v).latches))
        ≡ sets (set numbers (4 + i) (net_literal names (literal_of (get_or (take v.latches v.next) i 0)))) (4 + (i + 1))
        (map (λ (l : Latch). net_literal names l.next) (drop (i + 1) (meant v).latches))
    unfolding meant on_lines lent latches_of latch_at
    nexts_next h =
        rw (
          drop_table latch_at (min (length (take v.latches v.latch)) base.latches) i within,
          get_or-take v.latches v.next i 0 (omega (arith, length-take v.latches v.next)),
          add-one i,
          one,
        )
      where
        one : 4 + suc i ≡ suc (4 + i)
        one = omega arith

        within : i < min (length (take v.latches v.latch)) base.latches
        within = omega (arith, length-take v.latches v.latch, length-take v.latches v.next)

    pub nexts_end : length (take v.latches v.next) ≤ i
        → sets numbers (4 + i) (map (λ (l : Latch). net_literal names l.next) (drop i (meant v).latches)) ≡ numbers
    unfolding meant on_lines lent latches_of latch_at
    nexts_end h = rw (drop_table_all latch_at (min (length (take v.latches v.latch)) base.latches) i past)
      where
        past : min (length (take v.latches v.latch)) base.latches ≤ i
        past = omega (arith, length-take v.latches v.latch, length-take v.latches v.next)

-- what a loop over gates puts and names, and what one over latches puts
pub ruleset gates_put = (operands_next, operands_end, gates_next, gates_end, few_gates, few_inputs, few_latches, front_within)

pub ruleset nexts_put = (nexts_next, nexts_end, front_within)
