-- One line before the symbols: from what the code finds in it to its answer, a row or the number of a fault. Assumes nothing.
use Prim.Native.Nat.{ℕ, zero, suc, ◌+◌, ◌*◌, ◌<◌, ◌≤◌}
use native.Mathlib.Omega.{arith}
use mathlib.Core.Bool.{Bool, true, false, not, ◌&&◌, ◌||◌}
use mathlib.Core.List.{List, [], ◌∷◌}
use mathlib.Core.Option.{none, some}
use mathlib.Core.Path.{◌≡◌, refl, sym, ap, ◌∙◌, subst}
use lib.ListN.{length, get_or, take}
use borrow.Author.Tests.{le-ltb}
use Rattle.circuit.specs.Fault.{number_of}
use Rattle.circuit.specs.declared.numbers.Fault.{Fault}
use Rattle.circuit.specs.declared.numbers.Fault.TheVariants.{BadLine}
use Rattle.circuit.specs.Literal.{may_define, too_large}
use Rattle.fields.specs.Inner.Marks.{marked, Marks, number_if}
use Rattle.fields.specs.Inner.RowAt.{IsRow}
use Rattle.fields.proofs.Laws.Judged.{judged_malformed, judged_fine, judged_faulty, not_five, neither, literal_below, input_fault}
use Rattle.fields.proofs.Laws.Judged.{latch_fault, output_fault, gate_fault}
use Rattle.lines.specs.Inner.Kinds.{rule_of, form_of, fault_of}
use Rattle.lines.specs.Inner.LinedAs.{Literals, LinedAs}
use Rattle.std.specs.Prelude.{Option as Found, Some, None, Result, Ok, Err, MatchOption}
use Rattle.lines.specs.declared.kind.Kind.{Kind}
use Rattle.lines.specs.declared.kind.Kind.TheVariants.{Input, Latch, Output, Gate}
use Rattle.text.specs.Line.{numbers_of}
use Rattle.text.specs.Rules.{Rule, first_of, bad_own, input_rule, latch_rule, output_rule, gate_rule}
use Rattle.fields.proofs.Laws.Truth.{or-false}

-- a line without its numbers
lined_malformed : (largest : ℕ) (rule : Rule) (marks line : List ℕ) → numbers_of rule.count line ≡ none → LinedAs largest rule marks line (Err BadLine)
lined_malformed largest rule marks line e defined place says = judged_malformed rule defined place (numbers_of rule.count line) e

-- a line of a kind has as many numbers as its rule says
kind_count : (k : Kind) (M : ℕ) → ((form_of k).fewest ≡ (rule_of k M).count) × ((form_of k).most ≡ (rule_of k M).count) × (1 ≤ (form_of k).fewest) ×
    ((form_of k).most ≤ 3)
unfolding input_rule latch_rule output_rule gate_rule
kind_count Input M = (refl, refl, omega arith, omega arith)
kind_count Latch M = (refl, refl, omega arith, omega arith)
kind_count Output M = (refl, refl, omega arith, omega arith)
kind_count Gate M = (refl, refl, omega arith, omega arith)

module _ (k : Kind) (M : ℕ) (marks line : List ℕ) where
  pub kind_malformed : ((n : ℕ) → 1 ≤ n → n ≤ 5 → numbers_of n line ≡ none) → LinedAs M (rule_of k M) marks line (Err BadLine)
  kind_malformed e =
      let (few, many, least, most) = kind_count k M in
      lined_malformed M (rule_of k M) marks line (e (rule_of k M).count (omega arith) (omega arith))

  pub kind_other-count : (n : ℕ) (numbers : List ℕ) → IsRow line 0 n numbers → ((form_of k).fewest ≤ n → n ≤ (form_of k).most → ⊥)
      → LinedAs M (rule_of k M) marks line (Err BadLine)
  kind_other-count n numbers row d =
      let (few, many, least, most) = kind_count k M in
      lined_malformed M (rule_of k M) marks line (row.only (rule_of k M).count (omega arith) (λ e. d (omega arith) (omega arith)))

-- each of three numbers is below a bound that none reaches
each_below : (M a b c : ℕ) → a < 2 * M + 2 → b < 2 * M + 2 → c < 2 * M + 2 → (i : ℕ) → get_or (a ∷ b ∷ c ∷ []) i 0 < 2 * M + 2
each_below M a b c x y z zero = x
each_below M a b c x y z (suc zero) = y
each_below M a b c x y z (suc (suc zero)) = z
each_below M a b c x y z (suc (suc (suc i))) = omega arith

-- the first three of five numbers
front : (m : ℕ) (numbers : List ℕ) → length numbers ≡ 5 → m ≤ 3 → take m numbers ≡ take m (get_or numbers 0 0 ∷ get_or numbers 1 0 ∷ get_or numbers 2 0 ∷ [])
front zero xs e h = refl
front (suc zero) (a ∷ xs) e h = refl
front (suc (suc zero)) (a ∷ b ∷ xs) e h = refl
front (suc (suc (suc zero))) (a ∷ b ∷ c ∷ xs) e h = refl
front (suc (suc (suc (suc m)))) xs e h = absurd (omega arith)
front (suc m) [] e h = absurd (omega arith)
front (suc (suc m)) (a ∷ []) e h = absurd (omega arith)
front (suc (suc (suc m))) (a ∷ b ∷ []) e h = absurd (omega arith)

-- the literals of a line, and what they call for
module _ (M : ℕ) (marks : List ℕ) where
  none_large : too_large M 0 ≡ false
  unfolding too_large
  none_large = le-ltb (2 * M + 1) 0 (omega arith)

  -- a literal that is too large is bad also where it doesn't define
  own_and_large : (t n x y : Bool) → ((t || n) || (t || (x || y))) ≡ ((t || n) || x || y)
  own_and_large true n x y = refl
  own_and_large false true x y = refl
  own_and_large false false x y = refl

  fives : (own a b : ℕ) → (bad_own M own || (too_large M own || (too_large M a || too_large M b))) ≡ (bad_own M own || too_large M a || too_large M b)
  unfolding bad_own
  fives own a b = own_and_large (too_large M own) (not (may_define own)) (too_large M a) (too_large M b)

  pub kind_fault : (k : Kind) (defined : List ℕ) → Marks marks defined → (a b c : ℕ) → ((i : ℕ) → (rule_of k M).count ≤ i → get_or (a ∷ b ∷ c ∷ []) i 0 ≡ 0)
      → (rule_of k M).fault defined (take (rule_of k M).count (a ∷ b ∷ c ∷ [])) ≡ fault_of (form_of k) M marks a b c
  unfolding input_rule latch_rule output_rule gate_rule fault_of
  kind_fault Input defined m a b c others =
      let second : b ≡ 0 = others 1 (omega arith) in
      let third : c ≡ 0 = others 2 (omega arith) in
      input_fault M marks defined m a
      ∙ ap (λ (x : Bool). first_of x (marked marks a)) (sym (fives a b c ∙ rw (second, third, none_large, or-false (bad_own M a)) (or-false (bad_own M a))))
  kind_fault Latch defined m a b c others =
      latch_fault M marks defined m a b
      ∙ ap (λ (x : Bool). first_of x (marked marks a))
      (sym (fives a b c ∙ rw (others 2 (omega arith), none_large) (or-false (bad_own M a || too_large M b))))
  kind_fault Output defined m a b c others =
      let second : b ≡ 0 = others 1 (omega arith) in
      let third : c ≡ 0 = others 2 (omega arith) in
      output_fault M marks defined m a ∙ ap (λ (x : Bool). first_of x false) (sym (rw (second, third, none_large) (or-false (too_large M a))))
  kind_fault Gate defined m a b c others =
      gate_fault M marks defined m a b c
      ∙ ap (λ (x : Bool). first_of x (marked marks a)) (sym (fives a b c))

  pub kind_below : (k : Kind) (a b c : ℕ) → ((i : ℕ) → (rule_of k M).count ≤ i → get_or (a ∷ b ∷ c ∷ []) i 0 ≡ 0)
      → fault_of (form_of k) M marks a b c ≡ none → Literals M (rule_of k M).count (a ∷ b ∷ c ∷ [])
  unfolding fault_of
  kind_below k a b c others e =
      let five = not_five (((form_of k).defines && bad_own M a) || (too_large M a || (too_large M b || too_large M c))) ((form_of k).defines && marked marks a)
      e in
      let (own, large) = neither ((form_of k).defines && bad_own M a) (too_large M a || (too_large M b || too_large M c)) five in
      let (first, rest) = neither (too_large M a) (too_large M b || too_large M c) large in
      let (second, third) = neither (too_large M b) (too_large M c) rest in
      record { three = refl; each = each_below M a b c (literal_below M a first) (literal_below M b second) (literal_below M c third); others = others }

-- a line of as many numbers as its kind asks for
module _ (k : Kind) (M : ℕ) (marks line : List ℕ) (n : ℕ) (numbers : List ℕ) (row : IsRow line 0 n numbers) (low : (form_of k).fewest ≤ n)
    (high : n ≤ (form_of k).most) where
  abbrev three : List ℕ
  three = get_or numbers 0 0 ∷ get_or numbers 1 0 ∷ get_or numbers 2 0 ∷ []

  count-is : n ≡ (rule_of k M).count
  count-is = let (fewest, most, least, largest) = kind_count k M in omega arith

  others : (i : ℕ) → (rule_of k M).count ≤ i → get_or three i 0 ≡ 0
  others zero h = row.others 0 (omega (arith, count-is))
  others (suc zero) h = row.others 1 (omega (arith, count-is))
  others (suc (suc zero)) h = row.others 2 (omega (arith, count-is))
  others (suc (suc (suc i))) h = refl

  few : (rule_of k M).count ≤ 3
  few = let (fewest, most, least, largest) = kind_count k M in omega arith

  are : numbers_of (rule_of k M).count line ≡ some (take (rule_of k M).count three)
  are = subst (λ (m : ℕ). numbers_of m line ≡ some (take m numbers)) count-is row.is ∙ ap some (front (rule_of k M).count numbers row.five few)

  kind_faulty : (fault : Fault) → some (number_of fault) ≡ fault_of (form_of k) M marks (get_or numbers 0 0) (get_or numbers 1 0) (get_or numbers 2 0)
      → LinedAs M (rule_of k M) marks line (Err fault)
  kind_faulty fault says defined place m =
      judged_faulty (rule_of k M) defined place (numbers_of (rule_of k M).count line) (take (rule_of k M).count three) are (number_of fault)
      (kind_fault M marks k defined m _ _ _ others ∙ sym says)

  kind_row : fault_of (form_of k) M marks (get_or numbers 0 0) (get_or numbers 1 0) (get_or numbers 2 0) ≡ none
      → LinedAs M (rule_of k M) marks line (Ok three)
  kind_row z = (
    λ defined place m. judged_fine (rule_of k M) defined place (numbers_of (rule_of k M).count line) (take (rule_of k M).count three) are
        (kind_fault M marks k defined m _ _ _ others ∙ z),
    kind_below M marks k _ _ _ others z,
  )

  -- by what its literals call for
  pub kind_told : (o : Found Fault) (r : Result (List ℕ) Fault)
      → number_if o ≡ fault_of (form_of k) M marks (get_or numbers 0 0) (get_or numbers 1 0) (get_or numbers 2 0)
      → MatchOption o (r ≡ Ok three) (λ fault. r ≡ Err fault) → LinedAs M (rule_of k M) marks line r
  kind_told None r says e = subst (LinedAs M (rule_of k M) marks line) (sym e) (kind_row (sym says))
  kind_told (Some fault) r says e = subst (LinedAs M (rule_of k M) marks line) (sym e) (kind_faulty fault says)
