-- What is promised of a part of a line decides the answer. Assumes nothing.
use Prim.Native.Nat.{ℕ, ◌<◌, ◌≤◌}
use native.Mathlib.Decide.{dec_lt, ℕ_discrete}
use native.Mathlib.Omega.{arith}
use mathlib.Core.List.{List}
use mathlib.Core.Option.{Option, none, some}
use mathlib.Core.Path.{◌≡◌, refl, sym, ap, ◌∙◌, subst}
use lib.Dec.{eqb}
use lib.ListN.{length, get_or, take, drop, length-drop, get_or-eq_default}
use lib.Seq.{ext_get_or, get_or-take}
use borrow.Author.Tests.{lt-ltb, le-ltb}
use Rattle.below.specs.Among.{member}
use Rattle.fields.specs.Inner.Marks.{Marks}
use Rattle.fields.specs.Inner.NumberAt.{NumberAt}
use Rattle.fields.specs.Inner.RowAt.{RowAt}
use Rattle.std.specs.Prelude.{Option as Found, Some, None}
use Rattle.fields.specs.declared.number.Numeral.{Numeral}
use Rattle.fields.specs.declared.row.Row.{Row}
use Rattle.text.specs.Line.{numbers_of}
use Rattle.text.specs.Number.{is, bad}
use Rattle.fields.proofs.Laws.Truth.{eqb_turned}
use Rattle.fields.proofs.Laws.Picked.{picked, picked_one}

abbrev IsNone : Option (List ℕ) → Type 0
IsNone none = Unit {0}
IsNone (some xs) = ⊥

none_is_some : {xs : List ℕ} → none ≡ some xs → ⊥
none_is_some e = subst IsNone e tt

pub number_decided : (s : List ℕ) (at : ℕ) (r q : Found Numeral) → NumberAt s at r → NumberAt s at q → r ≡ q
number_decided s at (Some n) (Some m) (e, l, _) (f, k, _) =
    let told : is n.value (drop n.behind s) ≡ is m.value (drop m.behind s) = sym e ∙ f in
    let value : n.value ≡ m.value = cc in
    let rest : drop n.behind s ≡ drop m.behind s = cc in
    let place : n.behind ≡ m.behind = omega (arith, l, k, length-drop n.behind s, length-drop m.behind s, ap length rest) in
    λ x. Some (record { value = value x; behind = place x })
number_decided s at (Some n) None (e, l, _) f = let told : is n.value (drop n.behind s) ≡ bad = sym e ∙ f in cc
number_decided s at None (Some m) e (f, k, _) = let told : bad ≡ is m.value (drop m.behind s) = sym e ∙ f in cc
number_decided s at None None e f = refl

-- lists of one length with the same front, and zeros behind it, are the same
pub same_numbers : (n : ℕ) (xs ys : List ℕ) → length xs ≡ length ys → take n xs ≡ take n ys → ((i : ℕ) → n ≤ i → get_or xs i 0 ≡ 0)
    → ((i : ℕ) → n ≤ i → get_or ys i 0 ≡ 0) → xs ≡ ys
same_numbers n xs ys long front xz yz = ext_get_or 0 xs ys long (λ i l. elim (dec_lt i n)
    [ yes h ↦ same i h | no h ↦ xz i (omega arith) ∙ sym (yz i (omega arith)) ])
  where
    same : (i : ℕ) → i < n → get_or xs i 0 ≡ get_or ys i 0
    same i h = sym (get_or-take n xs i 0 h) ∙ ap (λ (q : List ℕ). get_or q i 0) front ∙ get_or-take n ys i 0 h

pub row_decided : (s : List ℕ) (at : ℕ) (r q : Found Row) → RowAt s at r → RowAt s at q → r ≡ q
row_decided s at (Some r) (Some q) v w = elim (ℕ_discrete r.count q.count)
    [ yes f ↦ same f | no f ↦ absurd (none_is_some (sym (w.only r.count v.least f) ∙ v.is)) ]
  where
    same : r.count ≡ q.count → Some r ≡ Some q
    same f =
        let xs = r.numbers in
        let ys = q.numbers in
        let n = r.count in
        let told : some (take n xs) ≡ some (take n ys) = sym v.is ∙ subst (λ (k : ℕ). numbers_of k (drop at s) ≡ some (take k ys)) (sym f) w.is in
        let front : take n xs ≡ take n ys = cc in
        let behind = subst (λ (k : ℕ). (i : ℕ) → k ≤ i → get_or ys i 0 ≡ 0) (sym f) w.others in
        let all : xs ≡ ys = same_numbers n xs ys (v.five ∙ sym w.five) front v.others behind in
        λ x. Some (record { count = f x; numbers = all x })
row_decided s at (Some r) None v w = absurd (none_is_some (sym (w r.count v.least v.most) ∙ v.is))
row_decided s at None (Some q) v w = absurd (none_is_some (sym (v q.count w.least w.most) ∙ w.is))
row_decided s at None None v w = refl

-- any marks say which variables are defined
pub defined_by : List ℕ → List ℕ
defined_by marks = picked (λ v. eqb (get_or marks v 0) 1) (λ v. v) (length marks)

pub marks_say : (marks : List ℕ) → Marks marks (defined_by marks)
unfolding Marks member defined_by
marks_say marks v = sym (picked_one (λ w. eqb (get_or marks w 0) 1) (λ w. w) (eqb v) v (eqb_turned v) (length marks)
    ∙ elim (dec_lt v (length marks)) [
      | yes h ↦ rw (lt-ltb v (length marks) h)
      | no h ↦
          rw (le-ltb v (length marks) (omega arith), get_or-eq_default marks 0 {n = v} (omega arith))
    ])
