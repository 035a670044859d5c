-- The parts of a net, looked up one by one. Assumes nothing.
use Prim.Native.Nat.{ℕ, suc, ◌+◌, ◌*◌, ◌-◌, ◌%◌, ◌^◌, ◌<◌, ◌≤◌, min}
use native.Mathlib.Nat.{pow-le-pow_right}
use native.Mathlib.Omega.{arith}
use mathlib.Core.List.{List, map}
use mathlib.Core.Path.{◌≡◌, sym, ap, subst, ◌∙◌}
use lib.ListN.{length, get_or, take, drop, length-take, length-drop}
use lib.Seq.{get_or-take, get_or-drop, drop-drop}
use Rattle.std.specs.Int.{from_bool}
use Rattle.below.specs.Table.{table}
use Rattle.below.proofs.Laws.Table.{table_same, table_get_or, map_table}
use Rattle.bits.specs.Bit.{one_if}
use Rattle.bits.specs.Digits.{sum}
use Rattle.bits.proofs.Laws.Bit.{one_if_below}
use Rattle.circuit.specs.Limits.{base}
use Rattle.net.specs.InOrder.{variables}
use Rattle.net.specs.Net.{net_controls, net_readings, net_latches, net_nexts, net_operands, move_bits}
use Rattle.step.proofs.Laws.FromTop.{FromTop, top_start, top_next, top_end, top_fits}
use Rattle.step.proofs.Laws.Truths.{from_bool-is}
use Rattle.blocks.specs.Evaluated.{literals, first_gate, next_in}
use Rattle.blocks.specs.Lane.{Truths, lane, lits_in}

module _ (net : List ℕ) where
  pub first_gate_lem : (c u l : ℕ) → c ≡ get_or net 0 0 → u ≡ get_or net 1 0 → l ≡ get_or net 2 0 → min (1 + c + u + l) variables ≡ first_gate net
  unfolding first_gate move_bits net_controls net_readings net_latches
  first_gate_lem c u l a b d = omega (arith, a, b, d)

  pub first_gate_few : first_gate net ≤ variables
  unfolding first_gate
  first_gate_few = omega arith

  pub first_gate-moved : first_gate net ≤ move_bits net + 1
  unfolding first_gate
  first_gate-moved = omega arith

  -- the operands stand behind the next-state literals
  pub operands_from : drop (4 + net_latches net) net ≡ net_operands net
  unfolding net_operands
  operands_from = sym (drop-drop (net_latches net) 4 net)

  pub nexts_counted : min (min (net_latches net) base.latches) (length net - 4) ≡ min base.latches (length (net_nexts net))
  unfolding net_nexts
  nexts_counted = omega (arith, length-take (net_latches net) (drop 4 net), length-drop 4 net)

  -- the counts of a net are small numbers
  module _ (small : (k : ℕ) → get_or net k 0 < 65536) where
    pub controls_fit : net_controls net < 65536
    unfolding net_controls
    controls_fit = small 0

    pub readings_fit : net_readings net < 65536
    unfolding net_readings
    readings_fit = small 1

    pub latches_fit : net_latches net < 65536
    unfolding net_latches
    latches_fit = small 2

  -- bit k of the next state
  unfoldable pub next_bit : (lits : Truths) (k : ℕ) → ℕ
  next_bit lits k = one_if (lits (get_or net (4 + k) 0 % literals))

  next_bit_small : (lits : Truths) (k : ℕ) → next_bit lits k < 2
  unfolding next_bit
  next_bit_small lits k = one_if_below _

  pub next_is-sum : (lits : Truths) → next_in net lits ≡ sum 2 (table (next_bit lits) (min base.latches (length (net_nexts net))))
  unfolding next_in next_bit net_nexts net_latches
  next_is-sum lits = ap (sum 2) (ap (map bit) (sym (table_get_or ls 0)) ∙ map_table bit (λ i. get_or ls i 0) (length ls) ∙ table_same _ _ (length ls) at
      ∙ ap (table (next_bit lits)) long)
    where
      bit : ℕ → ℕ
      bit l = one_if (lits (l % literals))

      nexts : List ℕ
      nexts = take (get_or net 2 0) (drop 4 net)

      ls : List ℕ
      ls = take base.latches nexts

      long : length ls ≡ min base.latches (length nexts)
      long = length-take base.latches nexts

      at : (i : ℕ) → i < length ls → bit (get_or ls i 0) ≡ next_bit lits i
      at i h = ap bit (get_or-take base.latches nexts i 0 (omega (arith, long)) ∙ get_or-take (get_or net 2 0) (drop 4 net) i 0
          (omega (arith, long, length-take (get_or net 2 0) (drop 4 net))) ∙ get_or-drop 4 net i 0)

  -- the bits from k on add up to the number
  abbrev pub NextFrom : Truths → (k number : ℕ) → Type 0
  NextFrom lits k number = FromTop (next_bit lits) (min base.latches (length (net_nexts net))) k number

  module _ (lits : Truths) where
    pub next_fits : (k number : ℕ) → NextFrom lits k number → number < 2 ^ base.latches
    next_fits k number b = omega (arith, top_fits (next_bit lits) _ (next_bit_small lits) k number b, pow-le-pow_right {n = 2} two most)
      where
        two : 1 ≤ 2
        two = omega arith

        most : min base.latches (length (net_nexts net)) ≤ base.latches
        most = omega arith

    pub next_start : (n : ℕ) → n ≡ min base.latches (length (net_nexts net)) → NextFrom lits n 0
    next_start n e = rw e (top_start (next_bit lits) _)

    pub next_all : (k number : ℕ) → NextFrom lits k number → k ≡ 0 → number ≡ next_in net lits
    next_all k number f e = top_end (next_bit lits) _ number (subst (λ (i : ℕ). NextFrom lits i number) e f) ∙ sym (next_is-sum lits)

  -- the words looked up say one bit more
  pub next_one : (words : List ℕ) (j k number b : ℕ) → NextFrom (lits_in words j) k number → 0 < k
      → b ≡ from_bool (lane (get_or words (get_or net (4 + (k - 1)) 0 % literals) 0) j) → NextFrom (lits_in words j) (k - 1) (2 * number + b)
  unfolding next_bit lits_in
  next_one words j k number b f h e =
      rw (e, from_bool-is _) (top_next (next_bit (lits_in words j)) _ (k - 1) number
      (subst (λ (i : ℕ). NextFrom (lits_in words j) i number) (omega arith) f))

-- counts of a net that fit, where its first gate and its operands are
pub ruleset counted = (controls_fit, readings_fit, latches_fit, operands_from, first_gate_few)

-- a loop over the bits from the highest down
pub ruleset bits_from_top = (next_fits, next_start, next_one, next_all)
