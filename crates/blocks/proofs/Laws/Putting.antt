-- Words put one variable after the other, seen in each lane. Assumes nothing.
use Prim.Native.Nat.{ℕ, suc, ◌+◌, ◌*◌, ◌-◌, ◌/◌, ◌%◌, ◌^◌, ◌<◌, ◌≤◌, min}
use native.Mathlib.Omega.{arith}
use native.Mathlib.Numerals.{add-one}
use native.Mathlib.Decide.{dec_lt, ℕ_discrete}
use mathlib.Core.Bool.{Bool, true, false, cond, not, ◌&&◌}
use mathlib.Core.List.{List, [], ◌∷◌}
use mathlib.Core.Logic.{◌≢◌}
use mathlib.Core.Path.{◌≡◌, refl, ap, ◌∙◌, fun_ext}
use lib.Dec.{eqb, leb}
use lib.ListN.{length, get_or, set, take, drop, length-set, length-take, length-drop}
use lib.Seq.{get_or-set_same, get_or-set_other, get_or-take, drop-cons}
use borrow.Author.Tests.{eq-eqb, ne_eqb, le-leb, lt-leb}
use Rattle.bits.specs.Bit.{odd}
use Rattle.circuit.specs.Literal.{variable, inverted}
use Rattle.net.specs.InOrder.{variables}
use Rattle.step.specs.Value.{Valuation}
use Rattle.blocks.specs.Evaluated.{literals, put_both, put_first, put_gates}
use Rattle.blocks.specs.Lane.{width, lane, Truths, lits_in}
use Rattle.blocks.proofs.Laws.Lane.{lane-other}

even_double : (v : ℕ) → odd (2 * v) ≡ false
unfolding odd
even_double v = ap (λ (m : ℕ). eqb m 1) {x = 2 * v % 2} {y = 0} (omega arith)

odd_double : (v : ℕ) → odd (2 * v + 1) ≡ true
unfolding odd
odd_double v = ap (λ (m : ℕ). eqb m 1) {x = (2 * v + 1) % 2} {y = 1} (omega arith)

-- a word and its inverse put both literals of a variable
pub both-set : (words : List ℕ) (v w j : ℕ) → 2 * v + 1 < length words → w < 2 ^ width → j < width
    → lits_in (set (set words (2 * v) w) (2 * v + 1) (2 ^ width - 1 - w)) j ≡ put_both v (lane w j) (lits_in words j)
unfolding lits_in put_both variable inverted
both-set words v w j h s f = fun_ext
    (λ l. elim (ℕ_discrete (l / 2) v) [ yes e ↦ elim (ℕ_discrete l (2 * v)) [ yes q ↦ plain l q | no d ↦ other l (omega arith) ] | no d ↦ away l d ])
  where
    after : List ℕ
    after = set (set words (2 * v) w) (2 * v + 1) (2 ^ width - 1 - w)

    even : odd (2 * v) ≡ false
    even = even_double v

    uneven : odd (2 * v + 1) ≡ true
    uneven = odd_double v

    half : 2 * v / 2 ≡ v
    half = omega arith

    half_more : (2 * v + 1) / 2 ≡ v
    half_more = omega arith

    plain : (l : ℕ) → l ≡ 2 * v → lane (get_or after l 0) j ≡ cond (eqb (l / 2) v) (cond (odd l) (not (lane w j)) (lane w j)) (lane (get_or words l 0) j)
    plain l q = rw (
      q,
      get_or-set_other (set words (2 * v) w) (2 * v + 1) (2 * v) (2 ^ width - 1 - w) 0
          (λ (e : 2 * v ≡ 2 * v + 1). absurd (omega arith)),
      get_or-set_same words (2 * v) w 0 (omega arith),
      half,
      eq-eqb v v refl,
      even,
    )

    other : (l : ℕ) → l ≡ 2 * v + 1 → lane (get_or after l 0) j ≡ cond (eqb (l / 2) v) (cond (odd l) (not (lane w j)) (lane w j)) (lane (get_or words l 0) j)
    other l q = rw (
      q,
      get_or-set_same (set words (2 * v) w) (2 * v + 1) (2 ^ width - 1 - w) 0 (omega (arith, length-set words (2 * v) w)),
      half_more,
      eq-eqb v v refl,
      uneven,
    ) (lane-other w j s f)

    away : (l : ℕ) → l / 2 ≢ v → lane (get_or after l 0) j ≡ cond (eqb (l / 2) v) (cond (odd l) (not (lane w j)) (lane w j)) (lane (get_or words l 0) j)
    away l d = rw (ne_eqb (l / 2) v d) (ap (λ (x : ℕ). lane x j) (get_or-set_other (set words (2 * v) w) (2 * v + 1) l (2 ^ width - 1 - w) 0
        (λ (e : l ≡ 2 * v + 1). d (omega arith)) ∙ get_or-set_other words (2 * v) l w 0 (λ (e : l ≡ 2 * v). d (omega arith))))

-- no variable, and one more
pub first_none : (val : Valuation) (lits : Truths) → lits ≡ put_first 0 val lits
unfolding put_first
first_none val lits = fun_ext (λ l. rw (le-leb 0 (variable l) (omega arith)))

pub first_more : (v : ℕ) (b : Bool) (val : Valuation) (lits : Truths) → b ≡ val v → put_both v b (put_first v val lits) ≡ put_first (v + 1) val lits
unfolding put_both put_first
first_more v b val lits e = fun_ext
    (λ l. elim (ℕ_discrete (variable l) v) [
      | yes q ↦ here l q
      | no d ↦ elim (dec_lt (variable l) v) [ yes h ↦ before l d h | no h ↦ behind l d (omega arith) ]
    ])
  where
    here : (l : ℕ) → variable l ≡ v → cond (eqb (variable l) v) (cond (inverted l) (not b) b)
        (cond (leb v (variable l)) (lits l) (cond (inverted l) (not (val (variable l))) (val (variable l)))) ≡ cond (leb (v + 1) (variable l)) (lits l)
        (cond (inverted l) (not (val (variable l))) (val (variable l)))
    here l q = rw (q, eq-eqb v v refl, lt-leb (v + 1) v (omega arith), e)

    before : (l : ℕ) → variable l ≢ v → variable l < v → cond (eqb (variable l) v) (cond (inverted l) (not b) b)
        (cond (leb v (variable l)) (lits l) (cond (inverted l) (not (val (variable l))) (val (variable l)))) ≡ cond (leb (v + 1) (variable l)) (lits l)
        (cond (inverted l) (not (val (variable l))) (val (variable l)))
    before l d h = rw (ne_eqb (variable l) v d, lt-leb v (variable l) h, lt-leb (v + 1) (variable l) (omega arith))

    behind : (l : ℕ) → variable l ≢ v → v < variable l → cond (eqb (variable l) v) (cond (inverted l) (not b) b)
        (cond (leb v (variable l)) (lits l) (cond (inverted l) (not (val (variable l))) (val (variable l)))) ≡ cond (leb (v + 1) (variable l)) (lits l)
        (cond (inverted l) (not (val (variable l))) (val (variable l)))
    behind l d h = rw (ne_eqb (variable l) v d, le-leb v (variable l) (omega arith), le-leb (v + 1) (variable l) (omega arith))

-- gates: no more than one number left puts nothing
short_none : (ops : List ℕ) (v : ℕ) (lits : Truths) → length ops ≤ 1 → put_gates ops v lits ≡ lits
unfolding put_gates
short_none [] v lits h = refl
short_none (a ∷ []) v lits h = refl
short_none (a ∷ b ∷ rest) v lits h = absurd (omega arith)

left_over : (d q i : ℕ) → min (d / 2) q ≤ i → min (2 * q) d - 2 * i ≤ 1
left_over d q i h = omega arith

module _ (operands : List ℕ) (first : ℕ) where
  -- the operands of the gates that there are words for
  abbrev pub read : List ℕ
  read = take (2 * (variables - first)) operands

  read_long : length read ≡ min (2 * (variables - first)) (length operands)
  read_long = length-take (2 * (variables - first)) operands

  pair_at : (i : ℕ) → i < min (length operands / 2) (variables - first)
      → drop (2 * i) read ≡ get_or operands (2 * i) 0 ∷ get_or operands (2 * i + 1) 0 ∷ drop (2 * (i + 1)) read
  pair_at i h =
      rw (
        drop-cons read (2 * i) 0 (omega (arith, read_long)),
        drop-cons read (suc (2 * i)) 0 (omega (arith, read_long)),
        here (2 * i) (omega arith),
        here (suc (2 * i)) (omega arith),
        add-one (2 * i),
        two,
      )
    where
      here : (k : ℕ) → k < 2 * (variables - first) → get_or read k 0 ≡ get_or operands k 0
      here k l = get_or-take (2 * (variables - first)) operands k 0 l

      two : 2 * (i + 1) ≡ suc (suc (2 * i))
      two = omega arith

  -- a gate puts the and of its operands
  pub gates_next : (i : ℕ) (lits : Truths) → i < min (length operands / 2) (variables - first)
      → put_gates (drop (2 * i) read) (first + i) lits
      ≡ put_gates (drop (2 * (i + 1)) read) (first + (i + 1))
      (put_both (first + i) (lits (get_or operands (2 * i) 0 % literals) && lits (get_or operands (2 * i + 1) 0 % literals)) lits)
  unfolding put_gates
  gates_next i lits h = rw (pair_at i h, one)
    where
      one : first + (i + 1) ≡ suc (first + i)
      one = omega arith

  pub gates_end : (i : ℕ) (lits : Truths) → min (length operands / 2) (variables - first) ≤ i → put_gates (drop (2 * i) read) (first + i) lits ≡ lits
  gates_end i lits h = short_none (drop (2 * i) read) (first + i) lits few
    where
      few : length (drop (2 * i) read) ≤ 1
      few = rw (length-drop (2 * i) read, read_long) (left_over (length operands) (variables - first) i h)
