-- The next state of a lent circuit as the sum of its bits, latch by latch. Assumes nothing.
use Prim.Native.Nat.{ℕ, ◌+◌, ◌-◌, ◌*◌, ◌^◌, min, ◌<◌, ◌≤◌}
use native.Mathlib.Nat.{pow-le-pow_right}
use native.Mathlib.Omega.{arith}
use mathlib.Core.Path.{◌≡◌, sym, ap, subst, ◌∙◌}
use mathlib.Core.List.{List}
use lib.ListN.{length, get_or}
use Rattle.std.specs.Int.{from_bool}
use Rattle.below.specs.Table.{table}
use Rattle.below.proofs.Laws.Table.{map_table}
use Rattle.bits.specs.Bit.{one_if}
use Rattle.bits.specs.Digits.{sum}
use Rattle.bits.proofs.Laws.Bit.{one_if_below}
use Rattle.circuit.specs.Circuit.{Latch}
use Rattle.circuit.specs.Limits.{base}
use Rattle.circuit.specs.Stored.{literal_of, latches_of, lent, on_lines, meant_lent}
use Rattle.circuit.specs.declared.lent.Lent.{Lent}
use Rattle.step.specs.NextIn.{next_in}
use Rattle.step.specs.Value.{Valuation, literal_value}
use Rattle.step.proofs.Laws.FromTop.{FromTop, top_start, top_next, top_end, top_fits}
use Rattle.step.proofs.Laws.Truths.{from_bool-is}

-- bit i of the next state
unfoldable pub next_bit : (next : List ℕ) → Valuation → ℕ → ℕ
next_bit next val i = one_if (literal_value val (literal_of (get_or next i 0)))

next_bit_small : (next : List ℕ) (val : Valuation) (i : ℕ) → next_bit next val i < 2
unfolding next_bit
next_bit_small next val i = one_if_below _

module _ (latch next : List ℕ) where
  latch_at : ℕ → Latch
  latch_at i = record { own = literal_of (get_or latch i 0); next = literal_of (get_or next i 0) }

  pub next_is-sum : (val : Valuation) → next_in val (latches_of latch next) ≡ sum 2 (table (next_bit next val) (min (length latch) base.latches))
  unfolding next_in latches_of latch_at next_bit
  next_is-sum val = ap (sum 2) (map_table (λ (l : Latch). one_if (literal_value val l.next)) latch_at (min (length latch) base.latches))

module _ (c : Lent) (val : Valuation) where
  -- the bits from i on add up to the number
  abbrev pub NextFrom : (i number : ℕ) → Type 0
  NextFrom i number = FromTop (next_bit c.next.now val) (min (length c.latch.now) base.latches) i number

  pub next_fits : (i number : ℕ) → NextFrom i number → number < 2 ^ base.latches
  next_fits i number b = omega (arith, top_fits (next_bit c.next.now val) _ (next_bit_small c.next.now val) i number b, pow-le-pow_right {n = 2} two most)
    where
      two : 1 ≤ 2
      two = omega arith

      most : min (length c.latch.now) base.latches ≤ base.latches
      most = omega arith

  pub next_start : (n : ℕ) → n ≡ min (length c.latch.now) base.latches → NextFrom n 0
  next_start n e = rw e (top_start (next_bit c.next.now val) _)

  pub next_one : (i number b : ℕ) → NextFrom i number → 0 < i → b ≡ from_bool (literal_value val (literal_of (get_or c.next.now (i - 1) 0)))
      → NextFrom (i - 1) (2 * number + b)
  unfolding next_bit
  next_one i number b f h e =
      rw (e, from_bool-is _) (top_next (next_bit c.next.now val) _ (i - 1) number (subst (λ (k : ℕ). NextFrom k number) (omega arith) f))

  pub next_all : (i number : ℕ) → NextFrom i number → i ≡ 0 → number ≡ next_in val (meant_lent c).latches
  unfolding meant_lent on_lines lent
  next_all i number f e = top_end (next_bit c.next.now val) _ number (subst (λ (k : ℕ). NextFrom k number) e f) ∙ sym (next_is-sum c.latch.now c.next.now val)

-- a loop over the bits from the highest down
pub ruleset bits_from_top = (next_fits, next_start, next_one, next_all)
