-- What is wrong with a line (01, "The numbers", 4 to 6): the tests say what the statements say, and a line is refused with a number exactly if it
-- is that of its fault, in the order within a line. Assumes nothing.
use Prim.Native.Nat.{ℕ, suc, ◌+◌, ◌*◌, ◌%◌, ◌<◌, ◌≤◌}
use native.Mathlib.Omega.{arith}
use mathlib.Core.Bool.{Bool, true, false, cond, ◌||◌, true≢false}
use mathlib.Core.List.{List, [], ◌∷◌}
use mathlib.Core.Logic.{◌⊎◌, inl, inr, ◌↔◌}
use mathlib.Core.Option.{Option, none, some}
use mathlib.Core.Path.{◌≡◌, refl, sym, ap, ◌∙◌, subst}
use lib.Dec.{eqb, leb}
use lib.ListN.{length, get_or}
use borrow.Author.Tests.{ltb-true, leb-false, eqb-true, eqb-false}
use Rattle.below.specs.Among.{member}
use Rattle.below.proofs.Laws.Says.{test-fails, fails-test}
use Rattle.circuit.specs.Literal.{variable, may_define, too_large}
use Rattle.circuit.specs.Outcome.{Outcome, taken, refused}
use Rattle.text.specs.InList.{All, In}
use Rattle.text.specs.Kind.{Kind, an_input, a_latch, the_output, a_gate, numbers_in, defining, defined_by}
use Rattle.text.specs.Line.{numbers_of}
use Rattle.text.specs.LineFault.{BadLiteral, large, odd_own, zero_own, Twice, LineFault, four, five, six, LineRight}
use Rattle.text.specs.LineIs.{LineIs, Malformed}
use Rattle.text.specs.Numbers.{bad_line, bad_literal, defined_twice}
use Rattle.text.specs.Rules.{first_of, bad_own, is_defined, unknown, any_unknown, Rule, input_rule, latch_rule, output_rule, gate_rule}
use Rattle.text.specs.Section.{judged}
use Rattle.text.specs.WellFormed.{Defining, Known}
use Rattle.text.specs.Written.{number_line}
use Rattle.text.proofs.Laws.Line.{numbers_line, numbers-is, none_is-not_some}
use Rattle.text.proofs.Laws.Lists.{neither, either, in_at, all_in, member_in, in_member}
use Rattle.text.proofs.Laws.Rules.{not-too_large, good_own, known_of, known_is, all_known_of}

-- the rule of a kind of line, and its tests
abbrev pub rule_of : Kind → ℕ → Rule
rule_of an_input M = input_rule M
rule_of a_latch M = latch_rule M
rule_of the_output M = output_rule M
rule_of a_gate M = gate_rule M

abbrev five_of : Kind → ℕ → List ℕ → Bool
five_of an_input M fs = bad_own M (get_or fs 0 0)
five_of a_latch M fs = bad_own M (get_or fs 0 0) || too_large M (get_or fs 1 0)
five_of the_output M fs = too_large M (get_or fs 0 0)
five_of a_gate M fs = bad_own M (get_or fs 0 0) || too_large M (get_or fs 1 0) || too_large M (get_or fs 2 0)

abbrev six_of : Kind → (defined fs : List ℕ) → Bool
six_of an_input defined fs = is_defined defined (get_or fs 0 0)
six_of a_latch defined fs = is_defined defined (get_or fs 0 0)
six_of the_output defined fs = false
six_of a_gate defined fs = is_defined defined (get_or fs 0 0)

fault_tests : (k : Kind) (M : ℕ) (defined fs : List ℕ) → (rule_of k M).fault defined fs ≡ first_of (five_of k M fs) (six_of k defined fs)
unfolding input_rule latch_rule output_rule gate_rule
fault_tests an_input M defined fs = refl
fault_tests a_latch M defined fs = refl
fault_tests the_output M defined fs = refl
fault_tests a_gate M defined fs = refl

pub count-is : (k : Kind) (M : ℕ) → (rule_of k M).count ≡ numbers_in k
unfolding input_rule latch_rule output_rule gate_rule
count-is an_input M = refl
count-is a_latch M = refl
count-is the_output M = refl
count-is a_gate M = refl

pub row_defines : (k : Kind) (M : ℕ) (fs : List ℕ) → cond (rule_of k M).defines (variable (get_or fs 0 0) ∷ []) [] ≡ defined_by k fs
unfolding input_rule latch_rule output_rule gate_rule
row_defines an_input M fs = refl
row_defines a_latch M fs = refl
row_defines the_output M fs = refl
row_defines a_gate M fs = refl

some_numbers : (k : Kind) → (c : ℕ) × (numbers_in k ≡ suc c)
some_numbers an_input = (0, refl)
some_numbers a_latch = (1, refl)
some_numbers the_output = (0, refl)
some_numbers a_gate = (2, refl)

-- 5
too_large-is : (M l : ℕ) → too_large M l ≡ true → 2 * M + 1 < l
unfolding too_large
too_large-is M l e = ltb-true (2 * M + 1) l e

own_bad : (M : ℕ) (k : Kind) (fs : List ℕ) (l : ℕ) → In fs l → In (defining k fs) l → bad_own M l ≡ true → BadLiteral M k fs
unfolding bad_own may_define
own_bad M k fs l here own e = by (too_large M l) (eqb (l % 2) 0) (leb 2 l) refl refl refl
  where
    by : (a b d : Bool) → too_large M l ≡ a → eqb (l % 2) 0 ≡ b → leb 2 l ≡ d → BadLiteral M k fs
    by true b d f g h = large l here (too_large-is M l f)
    by false false d f g h = odd_own l own (let o : (l % 2 ≡ 0 → ⊥) = eqb-false (l % 2) 0 g in omega (arith, o))
    by false true false f g h =
        let z : l ≡ 0 = omega (arith, eqb-true (l % 2) 0 g, leb-false 2 l h) in
        zero_own (subst (In (defining k fs)) z own)
    by false true true f g h = absurd (true≢false (sym (rw (f, g, h) at e)))

five_true : (k : Kind) (M : ℕ) (fs : List ℕ) → length fs ≡ numbers_in k → five_of k M fs ≡ true → BadLiteral M k fs
five_true an_input M fs n e = own_bad M an_input fs (get_or fs 0 0) (in_at 0 fs 0 (omega (arith, n))) (inl refl) e
five_true a_latch M fs n e =
    elim (either (bad_own M (get_or fs 0 0)) (too_large M (get_or fs 1 0)) e) [
      | inl f ↦ own_bad M a_latch fs (get_or fs 0 0) (in_at 0 fs 0 (omega (arith, n))) (inl refl) f
      | inr f ↦ large (get_or fs 1 0) (in_at 0 fs 1 (omega (arith, n))) (too_large-is M (get_or fs 1 0) f)
    ]
five_true the_output M fs n e = large (get_or fs 0 0) (in_at 0 fs 0 (omega (arith, n))) (too_large-is M (get_or fs 0 0) e)
five_true a_gate M fs n e =
    elim (either (bad_own M (get_or fs 0 0) || too_large M (get_or fs 1 0)) (too_large M (get_or fs 2 0)) e) [
      | inl f ↦
          elim (either (bad_own M (get_or fs 0 0)) (too_large M (get_or fs 1 0)) f) [
            | inl g ↦ own_bad M a_gate fs (get_or fs 0 0) (in_at 0 fs 0 (omega (arith, n))) (inl refl) g
            | inr g ↦ large (get_or fs 1 0) (in_at 0 fs 1 (omega (arith, n))) (too_large-is M (get_or fs 1 0) g)
          ]
      | inr f ↦ large (get_or fs 2 0) (in_at 0 fs 2 (omega (arith, n))) (too_large-is M (get_or fs 2 0) f)
    ]

abbrev Small : ℕ → ℕ → Type 0
Small M l = l ≤ 2 * M + 1

five_false : (k : Kind) (M : ℕ) (fs : List ℕ) → length fs ≡ numbers_in k → five_of k M fs ≡ false → All (Small M) fs × All (Defining M) (defining k fs)
five_false an_input M [] n e = absurd (omega (arith, n))
five_false an_input M (x ∷ []) n e = let d : Defining M x = good_own M x e in ((d.most, tt), (d, tt))
five_false an_input M (x ∷ y ∷ fs) n e = absurd (omega (arith, n))
five_false a_latch M [] n e = absurd (omega (arith, n))
five_false a_latch M (x ∷ []) n e = absurd (omega (arith, n))
five_false a_latch M (x ∷ y ∷ []) n e =
    let (own, next) = neither (bad_own M x) (too_large M y) e in
    let d : Defining M x = good_own M x own in
    ((d.most, (not-too_large M y next, tt)), (d, tt))
five_false a_latch M (x ∷ y ∷ z ∷ fs) n e = absurd (omega (arith, n))
five_false the_output M [] n e = absurd (omega (arith, n))
five_false the_output M (x ∷ []) n e = ((not-too_large M x e, tt), tt)
five_false the_output M (x ∷ y ∷ fs) n e = absurd (omega (arith, n))
five_false a_gate M [] n e = absurd (omega (arith, n))
five_false a_gate M (x ∷ []) n e = absurd (omega (arith, n))
five_false a_gate M (x ∷ y ∷ []) n e = absurd (omega (arith, n))
five_false a_gate M (x ∷ y ∷ z ∷ []) n e =
    let (front, right) = neither (bad_own M x || too_large M y) (too_large M z) e in
    let (own, left) = neither (bad_own M x) (too_large M y) front in
    let d : Defining M x = good_own M x own in
    ((d.most, (not-too_large M y left, (not-too_large M z right, tt))), (d, tt))
five_false a_gate M (x ∷ y ∷ z ∷ w ∷ fs) n e = absurd (omega (arith, n))

none_bad : (M : ℕ) (k : Kind) (fs : List ℕ) → All (Small M) fs → All (Defining M) (defining k fs) → BadLiteral M k fs → ⊥
none_bad M k fs a d (large l i h) = omega (arith, h, all_in (Small M) fs l a i)
none_bad M k fs a d (odd_own l i e) = let own : Defining M l = all_in (Defining M) (defining k fs) l d i in omega (arith, e, own.even)
none_bad M k fs a d (zero_own i) = let own : Defining M 0 = all_in (Defining M) (defining k fs) 0 d i in omega (arith, own.least)

five-says : (k : Kind) (M : ℕ) (fs : List ℕ) → length fs ≡ numbers_in k → (five_of k M fs ≡ true) ↔ BadLiteral M k fs
five-says k M fs n = (five_true k M fs n, λ b. by b (five_of k M fs) refl)
  where
    by : BadLiteral M k fs → (t : Bool) → five_of k M fs ≡ t → five_of k M fs ≡ true
    by b true e = e
    by b false e = let (small, own) = five_false k M fs n e in absurd (none_bad M k fs small own b)

-- 6
twice_of : (defined : List ℕ) (x : ℕ) → (is_defined defined x ≡ true) ↔ ((l : ℕ) × In (x ∷ []) l × In defined (variable l))
unfolding is_defined
twice_of defined x = (λ e. (x, inl refl, member_in (variable x) defined e), back)
  where
    back : (l : ℕ) × In (x ∷ []) l × In defined (variable l) → member (variable x) defined ≡ true
    back (l, inl e, i) = in_member (variable x) defined (subst (λ (v : ℕ). In defined (variable v)) (sym e) i)
    back (l, inr b, i) = absurd b

six_says : (k : Kind) (defined fs : List ℕ) → (six_of k defined fs ≡ true) ↔ Twice k defined fs
six_says an_input defined fs = twice_of defined (get_or fs 0 0)
six_says a_latch defined fs = twice_of defined (get_or fs 0 0)
six_says the_output defined fs = (λ e. absurd (true≢false (sym e)), λ t. absurd t.1)
six_says a_gate defined fs = twice_of defined (get_or fs 0 0)

-- 7
pub unknown-says : (defined : List ℕ) (l : ℕ) → (unknown defined l ≡ true) ↔ (Known defined l → ⊥)
unknown-says defined l = (λ e k. true≢false (sym e ∙ known_is defined l k), λ other. by other (unknown defined l) refl)
  where
    by : (Known defined l → ⊥) → (t : Bool) → unknown defined l ≡ t → unknown defined l ≡ true
    by other true e = e
    by other false e = absurd (other (known_of defined l e))

-- of a line's literals one isn't known
any_unknown-is : (defined ls : List ℕ) → any_unknown defined ls ≡ true → (l : ℕ) × In ls l × (Known defined l → ⊥)
unfolding any_unknown
any_unknown-is defined [] e = absurd (true≢false (sym e))
any_unknown-is defined (m ∷ ms) e = by (either (unknown defined m) (any_unknown defined ms) e) (any_unknown-is defined ms)
  where
    by : (unknown defined m ≡ true) ⊎ (any_unknown defined ms ≡ true) → (any_unknown defined ms ≡ true → (l : ℕ) × In ms l × (Known defined l → ⊥))
        → (l : ℕ) × In (m ∷ ms) l × (Known defined l → ⊥)
    by (inl f) ih = (m, inl refl, (unknown-says defined m).0 f)
    by (inr f) ih = let (l, i, n) = ih f in (l, inr i, n)

pub any_unknown-says : (defined ls : List ℕ) → (any_unknown defined ls ≡ true) ↔ ((l : ℕ) × In ls l × (Known defined l → ⊥))
any_unknown-says defined ls = (any_unknown-is defined ls, λ t. by t (any_unknown defined ls) refl)
  where
    by : (l : ℕ) × In ls l × (Known defined l → ⊥) → (t : Bool) → any_unknown defined ls ≡ t → any_unknown defined ls ≡ true
    by (l, i, n) true e = e
    by (l, i, n) false e = absurd (n (all_in (Known defined) ls l (all_known_of defined ls e) i))

-- how a line is judged
abbrev pub line_judged : Kind → ℕ → List ℕ → ℕ → List ℕ → Outcome (List ℕ)
line_judged k M defined place line = judged (rule_of k M) defined place (numbers_of (rule_of k M).count line)

-- the first of two tests
abbrev verdict : (place : ℕ) (fs : List ℕ) (five six : Bool) → Outcome (List ℕ)
verdict place fs true b = refused bad_literal place
verdict place fs false true = refused defined_twice place
verdict place fs false false = taken fs

judged_by_lem : (rule : Rule) (defined : List ℕ) (place : ℕ) (fs : List ℕ) (a b : Bool) → rule.fault defined fs ≡ first_of a b
    → judged rule defined place (some fs) ≡ verdict place fs a b
unfolding judged first_of
judged_by_lem rule defined place fs true b e = rw (e, judged)
judged_by_lem rule defined place fs false true e = rw (e, judged)
judged_by_lem rule defined place fs false false e = rw (e, judged)

module _ (k : Kind) (M : ℕ) (defined line : List ℕ) where
  -- the numbers of a line in form are read, and only those
  line_read : (fs : List ℕ) → LineIs (numbers_in k) line fs → numbers_of (rule_of k M).count line ≡ some fs
  line_read [] i = absurd (omega (arith, i.count, (some_numbers k).1))
  line_read (n ∷ ns) i =
      ap (numbers_of (rule_of k M).count) i.text ∙ ap (λ (m : ℕ). numbers_of m (number_line (n ∷ ns))) (count-is k M ∙ sym i.count)
      ∙ numbers_line n ns i.below

  read_line : (fs : List ℕ) → numbers_of (rule_of k M).count line ≡ some fs → LineIs (numbers_in k) line fs
  read_line fs e =
      let (c, is) = some_numbers k in
      subst (λ (m : ℕ). LineIs m line fs) (sym is) (numbers-is c line fs (ap (λ (m : ℕ). numbers_of m line) (sym (count-is k M ∙ is)) ∙ e))

  judged_line : (place : ℕ) (fs : List ℕ) → LineIs (numbers_in k) line fs
      → line_judged k M defined place line ≡ verdict place fs (five_of k M fs) (six_of k defined fs)
  judged_line place fs i = ap (judged (rule_of k M) defined place) (line_read fs i) ∙ judged_by_lem (rule_of k M) defined place fs _ _
      (fault_tests k M defined fs)

  malformed_refused : (place : ℕ) → Malformed (numbers_in k) line → line_judged k M defined place line ≡ refused bad_line place
  unfolding judged
  malformed_refused place m = by (numbers_of (rule_of k M).count line) refl
    where
      by : (o : Option (List ℕ)) → numbers_of (rule_of k M).count line ≡ o → line_judged k M defined place line ≡ refused bad_line place
      by none e = rw (e, judged)
      by (some fs) e = absurd (m fs (read_line fs e))

  -- a line is malformed, or has numbers
  pub data Formed : Type 0 where
    not_formed : Malformed (numbers_in k) line → Formed
    formed : (fs : List ℕ) → LineIs (numbers_in k) line fs → Formed

  pub form : Formed
  form = by (numbers_of (rule_of k M).count line) refl
    where
      by : (o : Option (List ℕ)) → numbers_of (rule_of k M).count line ≡ o → Formed
      by none e = not_formed (λ fs i. none_is-not_some fs (sym e ∙ line_read fs i))
      by (some fs) e = formed fs (read_line fs e)

  -- what a judged line is
  abbrev Told : ℕ → Outcome (List ℕ) → Type 0
  Told place (taken fs) = LineRight M k defined line fs
  Told place (refused number at) = (at ≡ place) × LineFault M k defined line number

  told : (place : ℕ) → Told place (line_judged k M defined place line)
  told place = by form
    where
      with_tests : (fs : List ℕ) → LineIs (numbers_in k) line fs → (a b : Bool) → (a ≡ true) ↔ BadLiteral M k fs → (b ≡ true) ↔ Twice k defined fs
          → Told place (verdict place fs a b)
      with_tests fs i true b p q = (refl, five refl fs i (p.0 refl))
      with_tests fs i false true p q = (refl, six refl fs i (test-fails false p refl) (q.0 refl))
      with_tests fs i false false p q = record { is = i; literals = test-fails false p refl; once = test-fails false q refl }

      by : Formed → Told place (line_judged k M defined place line)
      by (not_formed m) = subst (Told place) (sym (malformed_refused place m)) (refl, four refl m)
      by (formed fs i) = subst (Told place) (sym (judged_line place fs i))
          (with_tests fs i _ _ (five-says k M fs i.count) (six_says k defined fs))

  pub judged_fault : (place number at : ℕ) → line_judged k M defined place line ≡ refused number at → (at ≡ place) × LineFault M k defined line number
  judged_fault place number at e = subst (Told place) e (told place)

  pub judged_right : (place : ℕ) (fs : List ℕ) → line_judged k M defined place line ≡ taken fs → LineRight M k defined line fs
  judged_right place fs e = subst (Told place) e (told place)

  pub fault_judged : (place number : ℕ) → LineFault M k defined line number → line_judged k M defined place line ≡ refused number place
  fault_judged place number (four n m) = malformed_refused place m ∙ λ x. refused (sym n x) place
  fault_judged place number (five n fs i p) =
      judged_line place fs i ∙ rw ((five-says k M fs i.count).1 p) (λ x. refused (sym n x) place)
  fault_judged place number (six n fs i p q) =
      judged_line place fs i ∙ rw (fails-test (five_of k M fs) (five-says k M fs i.count) p, (six_says k defined fs).1 q) (λ x. refused (sym n x) place)

  pub right_judged : (place : ℕ) (fs : List ℕ) → LineRight M k defined line fs → line_judged k M defined place line ≡ taken fs
  right_judged place fs w =
      judged_line place fs w.is ∙ rw (
        fails-test (five_of k M fs) (five-says k M fs w.is.count) w.literals,
        fails-test (six_of k defined fs) (six_says k defined fs) w.once,
      )

-- the numbers of these faults are 4 to 6
pub fault_range : (M : ℕ) (k : Kind) (defined line : List ℕ) (number : ℕ) → LineFault M k defined line number → (4 ≤ number) × (number ≤ 6)
fault_range M k defined line number (four n m) = (omega (arith, n), omega (arith, n))
fault_range M k defined line number (five n fs i p) = (omega (arith, n), omega (arith, n))
fault_range M k defined line number (six n fs i p q) = (omega (arith, n), omega (arith, n))
