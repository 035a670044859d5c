-- One line judged: from its numbers and its faults as the code finds them to the definition's outcome. Assumes nothing.
use Prim.Native.Nat.{ℕ, ◌+◌, ◌*◌, ◌<◌}
use native.Mathlib.Omega.{arith}
use mathlib.Core.Bool.{Bool, true, false, not, ◌&&◌, ◌||◌}
use mathlib.Core.List.{List, [], ◌∷◌}
use mathlib.Core.Option.{Option, none, some}
use mathlib.Core.Path.{◌≡◌, refl, sym, ap}
use borrow.Author.Tests.{ltb-false}
use Rattle.circuit.specs.Literal.{variable, constant, too_large}
use Rattle.circuit.specs.Outcome.{taken, refused}
use Rattle.fields.specs.Inner.Marks.{marked, unmarked, Marks}
use Rattle.text.specs.Numbers.{bad_line}
use Rattle.text.specs.Rules.{Rule, first_of, bad_own, is_defined, unknown, input_rule, latch_rule, output_rule, gate_rule}
use Rattle.text.specs.Section.{judged}

module _ (rule : Rule) (defined : List ℕ) (place : ℕ) (numbers : Option (List ℕ)) where
  pub judged_malformed : numbers ≡ none → judged rule defined place numbers ≡ refused bad_line place
  unfolding judged
  judged_malformed e = rw e

  module _ (fs : List ℕ) (are : numbers ≡ some fs) where
    pub judged_fine : rule.fault defined fs ≡ none → judged rule defined place numbers ≡ taken fs
    unfolding judged
    judged_fine e = rw (are, e, judged)

    pub judged_faulty : (number : ℕ) → rule.fault defined fs ≡ some number → judged rule defined place numbers ≡ refused number place
    unfolding judged
    judged_faulty number e = rw (are, e, judged)

pub not_five : (five six : Bool) → first_of five six ≡ none → five ≡ false
unfolding first_of
not_five true six e = cc
not_five false six e = refl

pub neither : (a b : Bool) → (a || b) ≡ false → (a ≡ false) × (b ≡ false)
neither true b e = (e, cc)
neither false b e = (refl, e)

-- a literal that isn't too large is one that a circuit may have
pub literal_below : (M l : ℕ) → too_large M l ≡ false → l < 2 * M + 2
unfolding too_large
literal_below M l e = omega (arith, ltb-false (2 * M + 1) l e)

module _ (M : ℕ) (marks defined : List ℕ) (says : Marks marks defined) where
  defined_marked : (l : ℕ) → is_defined defined l ≡ marked marks l
  unfolding is_defined marked Marks
  defined_marked l = sym (says (variable l))

  pub unknown-unmarked : (l : ℕ) → unknown defined l ≡ unmarked marks l
  unfolding unknown unmarked
  unknown-unmarked l = ap (λ (b : Bool). not (constant l) && not b) (defined_marked l)

  pub input_fault : (a : ℕ) → (input_rule M).fault defined (a ∷ []) ≡ first_of (bad_own M a) (marked marks a)
  unfolding input_rule
  input_fault a = ap (λ (b : Bool). first_of (bad_own M a) b) (defined_marked a)

  pub latch_fault : (a b : ℕ) → (latch_rule M).fault defined (a ∷ b ∷ []) ≡ first_of (bad_own M a || too_large M b) (marked marks a)
  unfolding latch_rule
  latch_fault a b = ap (λ (x : Bool). first_of (bad_own M a || too_large M b) x) (defined_marked a)

  pub output_fault : (a : ℕ) → (output_rule M).fault defined (a ∷ []) ≡ first_of (too_large M a) false
  unfolding output_rule
  output_fault a = refl

  pub gate_fault : (a b c : ℕ) → (gate_rule M).fault defined (a ∷ b ∷ c ∷ []) ≡ first_of (bad_own M a || too_large M b || too_large M c) (marked marks a)
  unfolding gate_rule
  gate_fault a b c = rw (defined_marked a)
