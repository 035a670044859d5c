-- What the rules of the lines ask (01, "The file", rules 3 and 4), in the words of WellFormed: no fault is found in a line of a section exactly
-- if its literals are as the rules say. Assumes nothing.
use Prim.Native.Nat.{ℕ, ◌+◌, ◌*◌, ◌%◌, ◌^◌, ◌<◌, ◌≤◌}
use native.Mathlib.Omega.{arith}
use mathlib.Core.Bool.{Bool, true, false, cond, not, ◌&&◌, ◌||◌, true≢false}
use mathlib.Core.List.{List, [], ◌∷◌, ◌++◌, map}
use mathlib.Core.Logic.{inl, inr, ◌≢◌}
use mathlib.Core.Option.{none}
use mathlib.Core.Path.{◌≡◌, refl, sym, ap, ap₂}
use lib.Dec.{eqb, leb, ltb}
use lib.ListN.{length, get_or}
use borrow.Author.Tests.{ltb-true, ltb-false, lt-ltb, le-ltb, le-leb, leb-true, eqb-true, eq-eqb, not-false}
use Rattle.below.specs.Among.{member}
use Rattle.bits.proofs.Laws.Bytes.{both_true}
use Rattle.circuit.specs.Circuit.{Latch, Gate}
use Rattle.circuit.specs.Literal.{variable, constant, may_define, too_large}
use Rattle.text.specs.InList.{All}
use Rattle.text.specs.Kind.{latch_of, gate_of}
use Rattle.text.specs.Numbers.{bad_literal, defined_twice}
use Rattle.text.specs.Rules.{first_of, bad_own, is_defined, unknown, any_unknown, Rule, input_rule, latch_rule, output_rule, gate_rule}
use Rattle.text.specs.WellFormed.{Defining, LatchLine, GateLine, Known}
use Rattle.text.proofs.Laws.Line.{none_is-not_some}
use Rattle.text.proofs.Laws.Lists.{neither, neither_of, Fresh, member_in, in_member, no_member, no_member_of}
use Rattle.text.proofs.Laws.Section.{news, AllFine}

-- the tests on one literal
pub not-too_large : (M l : ℕ) → too_large M l ≡ false → l ≤ 2 * M + 1
unfolding too_large
not-too_large M l e = ltb-false (2 * M + 1) l e

not-too_large_of : (M l : ℕ) → l ≤ 2 * M + 1 → too_large M l ≡ false
unfolding too_large
not-too_large_of M l h = le-ltb (2 * M + 1) l h

pub good_own : (M l : ℕ) → bad_own M l ≡ false → Defining M l
unfolding bad_own may_define
good_own M l e =
    let (a, b) = neither (too_large M l) (not (may_define l)) e in
    let (c, d) = both_true (eqb (l % 2) 0) (leb 2 l) (not-false _ b) in
    record { most = not-too_large M l a; even = eqb-true (l % 2) 0 c; least = leb-true 2 l d }

good_own_of : (M l : ℕ) → Defining M l → bad_own M l ≡ false
unfolding bad_own may_define
good_own_of M l d = rw (not-too_large_of M l d.most, eq-eqb (l % 2) 0 d.even, le-leb 2 l d.least)

pub known_of : (defined : List ℕ) (l : ℕ) → unknown defined l ≡ false → Known defined l
unfolding unknown is_defined constant
known_of defined l e = by (ltb l 2) (member (variable l) defined) refl refl
  where
    by : (a b : Bool) → ltb l 2 ≡ a → member (variable l) defined ≡ b → Known defined l
    by true b f g = inl (ltb-true l 2 f)
    by false true f g = inr (member_in (variable l) defined g)
    by false false f g = absurd (true≢false (rw (f, g) at e))

pub known_is : (defined : List ℕ) (l : ℕ) → Known defined l → unknown defined l ≡ false
unfolding unknown is_defined constant
known_is defined l (inl h) = rw (lt-ltb l 2 h)
known_is defined l (inr i) = by (ltb l 2)
  where
    by : (a : Bool) → (not a && not (member (variable l) defined)) ≡ false
    by true = refl
    by false = rw (in_member (variable l) defined i)

-- of a line's literals
pub all_known_of : (defined ls : List ℕ) → any_unknown defined ls ≡ false → All (Known defined) ls
unfolding any_unknown
all_known_of defined [] e = tt
all_known_of defined (l ∷ ls) e =
    let (a, b) = neither (unknown defined l) (any_unknown defined ls) e in (known_of defined l a, all_known_of defined ls b)

pub all_known_is : (defined ls : List ℕ) → All (Known defined) ls → any_unknown defined ls ≡ false
unfolding any_unknown
all_known_is defined [] a = refl
all_known_is defined (l ∷ ls) a =
    neither_of (unknown defined l) (any_unknown defined ls) (known_is defined l a.0) (all_known_is defined ls a.1)

-- no fault, no number
no_fault : (five six : Bool) → first_of five six ≡ none → (five ≡ false) × (six ≡ false)
unfolding first_of
no_fault true six e = absurd (none_is-not_some bad_literal (sym e))
no_fault false true e = absurd (none_is-not_some defined_twice (sym e))
no_fault false false e = (refl, refl)

no_fault_of : (five six : Bool) → five ≡ false → six ≡ false → first_of five six ≡ none
unfolding first_of
no_fault_of five six a b = rw (a, b)

fresh_own : (defined : List ℕ) (l : ℕ) → is_defined defined l ≡ false → All (λ w. w ≢ variable l) defined
unfolding is_defined
fresh_own defined l e = no_member (variable l) defined e

fresh_own_of : (defined : List ℕ) (l : ℕ) → All (λ w. w ≢ variable l) defined → is_defined defined l ≡ false
unfolding is_defined
fresh_own_of defined l a = no_member_of (variable l) defined a

-- the numbers of a line
abbrev pub input_row : ℕ → List ℕ
input_row own = own ∷ []

abbrev pub latch_row : Latch → List ℕ
latch_row l = l.own ∷ l.next ∷ []

abbrev pub gate_row : Gate → List ℕ
gate_row g = g.own ∷ g.left ∷ g.right ∷ []

pub inputs_fine : (M : ℕ) (defined xs : List ℕ) → 2 * M + 1 < 10 ^ 7 → All (Defining M) xs → Fresh (λ v w. v ≢ w) defined (map variable xs)
    → AllFine (input_rule M) defined (map input_row xs)
unfolding input_rule
inputs_fine M defined [] s a f = tt
inputs_fine M defined (x ∷ xs) s a f = (
  record {
    count = refl;
    below = (omega (arith, a.0.most, s), tt);
    fine =
        no_fault_of (bad_own M x) (is_defined defined x) (good_own_of M x a.0) (fresh_own_of defined x f.0);
  },
  inputs_fine M (defined ++ (variable x ∷ [])) xs s a.1 f.1,
)

pub latches_fine : (M : ℕ) (defined : List ℕ) (ls : List Latch) → 2 * M + 1 < 10 ^ 7 → All (LatchLine M) ls
    → Fresh (λ v w. v ≢ w) defined (map (λ (l : Latch). variable l.own) ls) → AllFine (latch_rule M) defined (map latch_row ls)
unfolding latch_rule
latches_fine M defined [] s a f = tt
latches_fine M defined (l ∷ ls) s a f = (
  record {
    count = refl;
    below = (omega (arith, a.0.own.most, s), (omega (arith, a.0.next, s), tt));
    fine = no_fault_of (bad_own M l.own || too_large M l.next) (is_defined defined l.own)
        (neither_of (bad_own M l.own) (too_large M l.next) (good_own_of M l.own a.0.own) (not-too_large_of M l.next a.0.next))
        (fresh_own_of defined l.own f.0);
  },
  latches_fine M (defined ++ (variable l.own ∷ [])) ls s a.1 f.1,
)

pub output_fine : (M : ℕ) (defined : List ℕ) (l : ℕ) → 2 * M + 1 < 10 ^ 7 → l ≤ 2 * M + 1 → AllFine (output_rule M) defined ((l ∷ []) ∷ [])
unfolding output_rule
output_fine M defined l s h =
    (record { count = refl; below = (omega (arith, h, s), tt); fine = no_fault_of (too_large M l) false (not-too_large_of M l h) refl }, tt)

pub gates_fine : (M : ℕ) (defined : List ℕ) (gs : List Gate) → 2 * M + 1 < 10 ^ 7 → All (GateLine M) gs
    → Fresh (λ v w. v ≢ w) defined (map (λ (g : Gate). variable g.own) gs) → AllFine (gate_rule M) defined (map gate_row gs)
unfolding gate_rule
gates_fine M defined [] s a f = tt
gates_fine M defined (g ∷ gs) s a f = (
  record {
    count = refl;
    below = (omega (arith, a.0.own.most, s), (omega (arith, a.0.left, s), (omega (arith, a.0.right, s), tt)));
    fine = no_fault_of five (is_defined defined g.own) large (fresh_own_of defined g.own f.0);
  },
  gates_fine M (defined ++ (variable g.own ∷ [])) gs s a.1 f.1,
)
  where
    five : Bool
    five = bad_own M g.own || too_large M g.left || too_large M g.right

    large : five ≡ false
    large = neither_of (bad_own M g.own || too_large M g.left) (too_large M g.right)
        (neither_of (bad_own M g.own) (too_large M g.left) (good_own_of M g.own a.0.own) (not-too_large_of M g.left a.0.left))
        (not-too_large_of M g.right a.0.right)

-- what lines say that were found fine: each is one of these items, in which the rules find nothing, and each defines a variable of its own
pub record LinesAre {A : Type 0} (row : A → List ℕ) (own : A → ℕ) (Right : A → Type 0) (defined : List ℕ) (rows : List (List ℕ)) (xs : List A) : Type 0 where
  pub written : rows ≡ map row xs
  pub each : All Right xs
  pub fresh : Fresh (λ v w. v ≢ w) defined (map (λ x. variable (own x)) xs)

one_item_more : {A : Type 0} (row : A → List ℕ) (own : A → ℕ) (Right : A → Type 0) (defined : List ℕ) (rows : List (List ℕ)) (xs : List A) (x : A)
    → Right x → All (λ w. w ≢ variable (own x)) defined → LinesAre row own Right (defined ++ (variable (own x) ∷ [])) rows xs
    → LinesAre row own Right defined (row x ∷ rows) (x ∷ xs)
one_item_more row own Right defined rows xs x r f rest =
    record {
      written = ap {B = List (List ℕ)} (λ z. row x ∷ z) rest.written;
      each = (r, rest.each);
      fresh = (f, rest.fresh);
    }

pub inputs_are : (M : ℕ) (defined : List ℕ) (rows : List (List ℕ)) → AllFine (input_rule M) defined rows
    → LinesAre input_row (λ x. x) (Defining M) defined rows (map (λ fs. get_or fs 0 0) rows)
unfolding input_rule
inputs_are M defined [] f = record { written = refl; each = tt; fresh = tt }
inputs_are M defined ([] ∷ rows) f = absurd (omega (arith, f.0.count))
inputs_are M defined ((x ∷ y ∷ zs) ∷ rows) f = absurd (omega (arith, f.0.count))
inputs_are M defined ((x ∷ []) ∷ rows) f =
    let (five, six) = no_fault (bad_own M x) (is_defined defined x) f.0.fine in
    one_item_more input_row (λ y. y) (Defining M) defined rows (map (λ fs. get_or fs 0 0) rows) x (good_own M x five) (fresh_own defined x six)
    (inputs_are M (defined ++ (variable x ∷ [])) rows f.1)

pub latches_are : (M : ℕ) (defined : List ℕ) (rows : List (List ℕ)) → AllFine (latch_rule M) defined rows
    → LinesAre latch_row (λ l. l.own) (LatchLine M) defined rows (map latch_of rows)
unfolding latch_rule latch_of
latches_are M defined [] f = record { written = refl; each = tt; fresh = tt }
latches_are M defined ([] ∷ rows) f = absurd (omega (arith, f.0.count))
latches_are M defined ((x ∷ []) ∷ rows) f = absurd (omega (arith, f.0.count))
latches_are M defined ((x ∷ y ∷ z ∷ zs) ∷ rows) f = absurd (omega (arith, f.0.count))
latches_are M defined ((x ∷ y ∷ []) ∷ rows) f =
    let (five, six) = no_fault (bad_own M x || too_large M y) (is_defined defined x) f.0.fine in
    let (own, next) = neither (bad_own M x) (too_large M y) five in
    one_item_more latch_row (λ (l : Latch). l.own) (LatchLine M) defined rows (map latch_of rows) (record { own = x; next = y })
    (record { own = good_own M x own; next = not-too_large M y next }) (fresh_own defined x six) (latches_are M (defined ++ (variable x ∷ [])) rows f.1)

pub output_is : (M : ℕ) (defined : List ℕ) (rows : List (List ℕ)) → length rows ≡ 1 → AllFine (output_rule M) defined rows
    → (rows ≡ (get_or (get_or rows 0 []) 0 0 ∷ []) ∷ []) × (get_or (get_or rows 0 []) 0 0 ≤ 2 * M + 1)
unfolding output_rule
output_is M defined [] n f = absurd (omega (arith, n))
output_is M defined (fs ∷ gs ∷ rows) n f = absurd (omega (arith, n))
output_is M defined ([] ∷ []) n f = absurd (omega (arith, f.0.count))
output_is M defined ((x ∷ y ∷ zs) ∷ []) n f = absurd (omega (arith, f.0.count))
output_is M defined ((x ∷ []) ∷ []) n f = (refl, not-too_large M x (no_fault (too_large M x) false f.0.fine).0)

pub gates_are : (M : ℕ) (defined : List ℕ) (rows : List (List ℕ)) → AllFine (gate_rule M) defined rows
    → LinesAre gate_row (λ g. g.own) (GateLine M) defined rows (map gate_of rows)
unfolding gate_rule gate_of
gates_are M defined [] f = record { written = refl; each = tt; fresh = tt }
gates_are M defined ([] ∷ rows) f = absurd (omega (arith, f.0.count))
gates_are M defined ((x ∷ []) ∷ rows) f = absurd (omega (arith, f.0.count))
gates_are M defined ((x ∷ y ∷ []) ∷ rows) f = absurd (omega (arith, f.0.count))
gates_are M defined ((x ∷ y ∷ z ∷ w ∷ ws) ∷ rows) f = absurd (omega (arith, f.0.count))
gates_are M defined ((x ∷ y ∷ z ∷ []) ∷ rows) f =
    let (five, six) = no_fault (bad_own M x || too_large M y || too_large M z) (is_defined defined x) f.0.fine in
    let (front, right) = neither (bad_own M x || too_large M y) (too_large M z) five in
    let (own, left) = neither (bad_own M x) (too_large M y) front in
    one_item_more gate_row (λ (g : Gate). g.own) (GateLine M) defined rows (map gate_of rows) (record { own = x; left = y; right = z })
    (record { own = good_own M x own; left = not-too_large M y left; right = not-too_large M z right }) (fresh_own defined x six)
    (gates_are M (defined ++ (variable x ∷ [])) rows f.1)

-- what lines of items define
pub news_items : {A : Type 0} (rule : Rule) (row : A → List ℕ) (own : A → ℕ) → rule.defines ≡ true → ((x : A) → get_or (row x) 0 0 ≡ own x)
    → (xs : List A) → news rule (map row xs) ≡ map (λ x. variable (own x)) xs
news_items rule row own d e [] = refl
news_items rule row own d e (x ∷ xs) =
    let here : cond rule.defines (variable (get_or (row x) 0 0) ∷ []) [] ≡ variable (own x) ∷ [] = (rw (d, e x)) in
    ap₂ {C = List ℕ} (λ a b. a ++ b) here (news_items rule row own d e xs)
