-- What holds of the count of inputs that pass a test: one input more, and those that don't pass. Assumes nothing.
use Prim.Native.Nat.{ℕ, zero, suc, ◌+◌, ◌<◌, ◌≤◌}
use native.Mathlib.Decide.{dec_lt}
use native.Mathlib.Nat.{add-zero}
use native.Mathlib.Omega.{arith}
use mathlib.Core.Bool.{Bool, true, false, cond, not}
use mathlib.Core.List.{List, [], ◌∷◌, ◌++◌}
use mathlib.Core.Path.{◌≡◌, refl, sym, ap, ◌∙◌}
use lib.Dec.{eqb}
use lib.ListN.{length, get_or, take, get_or-eq_default}
use lib.Seq.{take_all, take-suc}
use Rattle.std.proofs.lemmas.List.Sums.{sum_by_push}
use Rattle.std.specs.List.{count_by}
use Rattle.below.specs.Table.{table}
use Rattle.below.proofs.Laws.Table.{length_table}
use Rattle.circuit.specs.Circuit.{Input, inputs_that}
use Rattle.circuit.specs.Stored.{inputs_of, literal_of}

pub inputs_append : (p : Input → Bool) (is js : List Input) → inputs_that p (is ++ js) ≡ inputs_that p is + inputs_that p js
unfolding inputs_that
inputs_append p [] js = omega arith
inputs_append p (i ∷ is) js = by (p i) (inputs_append p is js)
  where
    by : (b : Bool) → inputs_that p (is ++ js) ≡ inputs_that p is + inputs_that p js
        → cond b (suc (inputs_that p (is ++ js))) (inputs_that p (is ++ js)) ≡ cond b (suc (inputs_that p is)) (inputs_that p is) + inputs_that p js
    by true ih = omega arith
    by false ih = omega arith

pub inputs_most : (p : Input → Bool) (is : List Input) → inputs_that p is ≤ length is
unfolding inputs_that
inputs_most p [] = omega arith
inputs_most p (i ∷ is) = by (p i) (inputs_most p is)
  where
    by : (b : Bool) → inputs_that p is ≤ length is → cond b (suc (inputs_that p is)) (inputs_that p is) ≤ suc (length is)
    by true ih = omega arith
    by false ih = omega arith

-- each input passes or doesn't
pub inputs_parted : (p : Input → Bool) (is : List Input) → inputs_that p is + inputs_that (λ i. not (p i)) is ≡ length is
unfolding inputs_that
inputs_parted p [] = refl
inputs_parted p (i ∷ is) = by (p i) (inputs_parted p is)
  where
    by : (b : Bool) → inputs_that p is + inputs_that (λ j. not (p j)) is ≡ length is
        → cond b (suc (inputs_that p is)) (inputs_that p is) + cond (not b) (suc (inputs_that (λ j. not (p j)) is)) (inputs_that (λ j. not (p j)) is) ≡ suc
        (length is)
    by true ih = omega arith
    by false ih = omega arith

-- the flag of an input; past the flags it is 0
input_at : (input controllable : List ℕ) → ℕ → Input
input_at input controllable i = record { own = literal_of (get_or input i 0); controllable = not (eqb (get_or controllable i 0) 0) }

abbrev is_set : ℕ → Bool
is_set flag = not (eqb flag 0)

module _ (input controllable : List ℕ) where
  -- the flags that are set, of as many as there are inputs
  flags_front : (n : ℕ) → count_by is_set (take n controllable) ≡ inputs_that (λ i. i.controllable) (table (input_at input controllable) n)
  unfolding table inputs_that input_at
  flags_front zero = refl
  flags_front (suc n) = by (dec_lt n (length controllable)) (flags_front n) ∙ sym (inputs_append (λ i. i.controllable) (table here n) (here n ∷ []))
    where
      here : ℕ → Input
      here = input_at input controllable

      by : Dec (n < length controllable) → count_by is_set (take n controllable) ≡ inputs_that (λ i. i.controllable) (table here n)
          → count_by is_set (take (suc n) controllable) ≡ inputs_that (λ i. i.controllable) (table here n) + inputs_that (λ i. i.controllable) (here n ∷ [])
      by (yes h) e = rw (take-suc controllable n 0 h) (sum_by_push (λ b. cond (is_set b) 1 0) (take n controllable) (get_or controllable n 0)
          ∙ ap (λ (m : ℕ). m + cond (is_set (get_or controllable n 0)) 1 0) e)
      by (no h) e = rw (take_all (suc n) controllable (omega arith), get_or-eq_default controllable 0 {n = n} (omega arith))
          (ap (count_by is_set) (sym (take_all n controllable (omega arith))) ∙ e ∙ sym (add-zero _))

  pub controllable_flags : count_by is_set (take (length input) controllable) ≡ inputs_that (λ i. i.controllable) (inputs_of input controllable)
  unfolding inputs_of input_at
  controllable_flags = flags_front (length input)

  pub length_inputs : length (inputs_of input controllable) ≡ length input
  unfolding inputs_of
  length_inputs = length_table _ (length input)
