-- What holds of a step: the next state is a state; the largest variable, the lines of gates and bits above a count aren't read; what is read of
-- a valuation that is put part by part. Assumes nothing.
use Prim.Native.Nat.{ℕ, suc, ◌/◌, ◌%◌, ◌^◌, ◌<◌}
use mathlib.Core.Bool.{Bool, true, false, cond, not}
use mathlib.Core.List.{List, [], ◌∷◌, map}
use mathlib.Core.Path.{◌≡◌, refl, ap, ◌∙◌, subst}
use lib.ListN.{length, length-map}
use Rattle.bits.specs.Bit.{odd, one_if}
use Rattle.bits.specs.Digits.{sum, AllBelow}
use Rattle.bits.proofs.Laws.Bit.{one_if_below}
use Rattle.bits.proofs.Laws.Digits.{sum_below}
use Rattle.bits.proofs.Laws.Halves.{half_mod, odd_mod}
use Rattle.circuit.specs.Circuit.{Circuit, Input, Latch, inputs_that, latch_count, uncontrollable_count, controllable_count}
use Rattle.circuit.specs.Literal.{variable}
use Rattle.circuit.specs.Stored.{literal_of, lent, on_lines, meant_lent}
use Rattle.circuit.specs.declared.lent.Lent.{Lent}
use Rattle.step.specs.declared.Stepped.{Stepped}
use Rattle.step.specs.NextIn.{next_in}
use Rattle.step.specs.Step.{step, error_of, next_of}
use Rattle.step.specs.Value.{Valuation, valuation, literal_value, put, with_inputs, with_latches, with_gates}

truths_below : (f : Latch → Bool) (ls : List Latch) → AllBelow 2 (map (λ (l : Latch). one_if (f l)) ls)
truths_below f [] = tt
truths_below f (l ∷ ls) = (one_if_below (f l), truths_below f ls)

pub next_below : (c : Circuit) (s r k : ℕ) → next_of c s r k < 2 ^ latch_count c
unfolding next_of latch_count
next_below c s r k =
    let below = truths_below (λ l. literal_value (valuation c s r k) l.next) c.latches in
    subst (λ (n : ℕ). next_of c s r k < 2 ^ n) (length-map c.latches _) (sum_below 2 _ below)

-- neither the largest variable nor the lines that its gates stand on are read
pub largest_not_read : (largest : ℕ) (c : Circuit) (s r k : ℕ) → step (record c { largest = largest }) s r k ≡ step c s r k
unfolding step error_of next_of valuation
largest_not_read largest c s r k = refl

pub lines-not_read : (lines : List ℕ) (c : Circuit) (s r k : ℕ) → step (on_lines lines c) s r k ≡ step c s r k
unfolding step error_of next_of valuation on_lines
lines-not_read lines c s r k = refl

-- inputs, then latches, then gates of a lent circuit, put over nothing: error and next state are what is then read
pub step_is : (c : Lent) (s r k : ℕ) (none inputs latches gates : Valuation) (error : Bool) (after : ℕ)
    → none ≡ (λ v. false)
    → inputs ≡ with_inputs (meant_lent c).inputs r k none
    → latches ≡ with_latches (meant_lent c).latches s inputs
    → gates ≡ with_gates (meant_lent c).gates latches
    → error ≡ literal_value gates (literal_of c.output)
    → after ≡ next_in gates (meant_lent c).latches
    → ◌≡◌ {A = Stepped} (record { error = error; next = after }) (step (meant_lent c) s r k)
unfolding step error_of next_of next_in valuation meant_lent on_lines lent
step_is c s r k none inputs latches gates error after a b d e f n = rw (f, n, e, d, b, a)

chosen : Input → Bool
chosen i = i.controllable

other : Input → Bool
other i = not i.controllable

inputs_mod : (is : List Input) (r k : ℕ) (val : Valuation)
    → with_inputs is (r % 2 ^ inputs_that other is) (k % 2 ^ inputs_that chosen is) val ≡ with_inputs is r k val
unfolding with_inputs inputs_that chosen other
inputs_mod [] r k val = refl
inputs_mod (i ∷ is) r k val = by i.controllable (inputs_mod is)
  where
    v : ℕ
    v = variable i.own

    u : ℕ
    u = inputs_that other is

    w : ℕ
    w = inputs_that chosen is

    by : (b : Bool)
        → ((r k : ℕ) (val : Valuation) → with_inputs is (r % 2 ^ inputs_that other is) (k % 2 ^ inputs_that chosen is) val ≡ with_inputs is r k val)
        → cond b
        (with_inputs is (r % 2 ^ cond (not b) (suc u) u) (k % 2 ^ cond b (suc w) w / 2) (put v (odd (k % 2 ^ cond b (suc w) w)) val))
        (with_inputs is (r % 2 ^ cond (not b) (suc u) u / 2) (k % 2 ^ cond b (suc w) w) (put v (odd (r % 2 ^ cond (not b) (suc u) u)) val))
        ≡ cond b (with_inputs is r (k / 2) (put v (odd k) val)) (with_inputs is (r / 2) k (put v (odd r) val))
    by true ih = rw (half_mod k w, odd_mod k w) (ih r (k / 2) (put v (odd k) val))
    by false ih = rw (half_mod r u, odd_mod r u) (ih (r / 2) k (put v (odd r) val))

latches_mod : (ls : List Latch) (s : ℕ) (val : Valuation) → with_latches ls (s % 2 ^ length ls) val ≡ with_latches ls s val
unfolding with_latches
latches_mod [] s val = refl
latches_mod (l ∷ ls) s val = rw (half_mod s (length ls), odd_mod s (length ls)) (latches_mod ls (s / 2) (put (variable l.own) (odd s) val))

valuation_mod : (c : Circuit) (s r k : ℕ) → valuation c (s % 2 ^ latch_count c) (r % 2 ^ uncontrollable_count c) (k % 2 ^ controllable_count c) ≡ valuation c s
    r k
unfolding valuation latch_count uncontrollable_count controllable_count chosen other
valuation_mod c s r k = ap (with_gates c.gates) (latches_mod c.latches s _ ∙ ap (with_latches c.latches s) (inputs_mod c.inputs r k (λ v. false)))

-- bits of state, reading and control above their counts aren't read
pub bits_above_not_read : (c : Circuit) (s r k : ℕ) → step c (s % 2 ^ latch_count c) (r % 2 ^ uncontrollable_count c) (k % 2 ^ controllable_count c) ≡ step c s
    r k
unfolding step error_of next_of
bits_above_not_read c s r k =
    let val = valuation_mod c s r k in
    λ x. record {
      error = literal_value (val x) c.output;
      next = sum 2 (map (λ (l : Latch). one_if (literal_value (val x) l.next)) c.latches);
    }
