-- The search for a move that keeps, a block at a time: a lane that keeps is the move looked for, and a block without one leaves the search
-- behind its last lane. Assumes nothing.
use Prim.Native.Nat.{ℕ, ◌+◌, ◌*◌, ◌-◌, ◌<◌, ◌≤◌, min, max}
use native.Mathlib.Omega.{arith}
use native.Mathlib.Decide.{dec_lt}
use mathlib.Core.Bool.{Bool, true, false, not, ◌&&◌, true≢false}
use mathlib.Core.List.{List}
use mathlib.Core.Path.{◌≡◌, refl, sym, ap, ◌∙◌}
use Rattle.std.proofs.Common.{Some, None}
use Rattle.below.specs.LeastFrom.{least_from}
use Rattle.below.proofs.Laws.LeastFrom.{from_found, from_none, from_same, from_le, from_holds, from_start, from-before}
use Rattle.blocks.specs.Lane.{width, lane, move_in}
use Rattle.keeping.specs.Inner.InLane.{lane_number, keeps_in}
use Rattle.keeping.specs.declared.lane.Found.{Found}
use Rattle.solver.specs.Inner.Answers.{MoveFrom}
use Rattle.solver.specs.Inner.Moves.{move_keeps}

-- a search over numbers that all begin behind another
from_shift : (p : ℕ → Bool) (c a b : ℕ) → c + least_from (λ j. p (c + j)) a b ≡ least_from p (c + a) (c + b)
from_shift p c a b = elim (dec_lt l b) [
  | yes h ↦ sym (from_found p (c + a) (c + b) (c + l) (omega (arith, from_start q a b h)) (omega arith) (from_holds q a b h) (λ i f g. before i f g))
  | no h ↦ omega (arith, from_le q a b) ∙ sym (from_none p (c + a) (c + b) (λ i f g. before i f (omega (arith, from_le q a b))))
]
  where
    q : ℕ → Bool
    q j = p (c + j)

    l : ℕ
    l = least_from q a b

    before : (i : ℕ) → c + a ≤ i → i < c + l → p i ≡ false
    before i f g = ap p {x = i} {y = c + (i - c)} (omega arith) ∙ from-before q a b (i - c) (omega arith) (omega arith)

-- where a lane keeps in some set, its state decides for each
lane_leads : (some : ℕ → Bool) (error : ℕ) (next : List ℕ) (j : ℕ) → keeps_in some error next j ≡ true → (set : ℕ → Bool)
    → keeps_in set error next j ≡ set (lane_number next j)
unfolding keeps_in
lane_leads some error next j e set = by (lane error j) e
  where
    by : (b : Bool) → (not b && some (lane_number next j)) ≡ true → (not b && set (lane_number next j)) ≡ set (lane_number next j)
    by true f = absurd (true≢false (sym f))
    by false f = refl

-- the lanes of a block whose planes say what its moves do
module _ (net : List ℕ) (set : ℕ → Bool) (error : ℕ) (next : List ℕ) (block from end : ℕ)
    (says : (j : ℕ) → j < width → (these : ℕ → Bool) → keeps_in these error next j ≡ move_keeps net these (move_in block j))
    (starts : block * width ≤ from) (forward : from ≤ end) (one_block : end ≤ block * width + width) where
  least_is : block * width + least_from (keeps_in set error next) (from - block * width) (end - block * width) ≡ least_from (move_keeps net set) from end
  unfolding move_in
  least_is =
      ap (λ (i : ℕ). block * width + i) (from_same (keeps_in set error next) (λ j. move_keeps net set (block * width + j)) (from - block * width)
      (end - block * width) (λ j h. says j (omega arith) set))
      ∙ from_shift (move_keeps net set) (block * width) (from - block * width) (end - block * width)
      ∙ ap (λ (a : ℕ). least_from (move_keeps net set) a (block * width + (end - block * width))) {x = block * width + (from - block * width)} {y = from}
      (omega arith) ∙ ap (least_from (move_keeps net set) from) {x = block * width + (end - block * width)} {y = end} (omega arith)

  pub block_none : end - block * width ≡ least_from (keeps_in set error next) (from - block * width) (end - block * width) → MoveFrom net set from end None
  block_none e = record { number = omega (arith, least_is); within = tt; leads = tt }

  pub block_found : (lane lead : ℕ) → lane ≡ least_from (keeps_in set error next) (from - block * width) (end - block * width) → lane < end - block * width
      → lead ≡ lane_number next lane → MoveFrom net set from end (Some (record { number = block * width + lane; lead = lead }))
  unfolding move_in
  block_found lane lead e h l = record {
    number = omega (arith, least_is);
    within = omega arith;
    leads = λ these. sym (says lane (omega arith) these) ∙ lane_leads set error next lane keeps these ∙ ap these (sym l);
  }
    where
      keeps : keeps_in set error next lane ≡ true
      keeps = ap (keeps_in set error next) e ∙ from_holds (keeps_in set error next) (from - block * width) (end - block * width) (omega (arith, e))

-- none of the moves from one on, below an end, that lie before a block keeps
pub record NoneBefore (net : List ℕ) (set : ℕ → Bool) (from end block : ℕ) : Type 0 where
  pub none : (i : ℕ) → from ≤ i → i < end → i < width * block → move_keeps net set i ≡ false

module _ (net : List ℕ) (set : ℕ → Bool) (from end : ℕ) where
  none_keeps : ((i : ℕ) → from ≤ i → i < end → move_keeps net set i ≡ false) → MoveFrom net set from end None
  none_keeps none = record { number = sym (from_none (move_keeps net set) from end none); within = tt; leads = tt }

  -- where there is no move none keeps
  pub no_move : end ≤ from → MoveFrom net set from end None
  no_move h = none_keeps (λ i a b. absurd (omega arith))

  pub none_start : (block : ℕ) → width * block ≤ from → NoneBefore net set from end block
  none_start block h = record { none = λ i a b l. absurd (omega arith) }

  -- behind the last block none is left
  pub none_left : (block : ℕ) → NoneBefore net set from end block → end ≤ width * block → MoveFrom net set from end None
  none_left block before h = none_keeps (λ i a b. before.none i a b (omega arith))

  -- the part of a block that is looked through next
  module _ (block : ℕ) (before : NoneBefore net set from end block) (low high : ℕ) (starts : low ≡ max from (width * block))
      (ends : high ≡ min end (width * block + width)) where
    passed : (i : ℕ) → from ≤ i → i < least_from (move_keeps net set) low high → move_keeps net set i ≡ false
    passed i a l = elim (dec_lt i (width * block)) [
      | yes h ↦ before.none i a (omega (arith, ends, from_le (move_keeps net set) low high)) h
      | no h ↦ from-before (move_keeps net set) low high i (omega (arith, starts)) l
    ]

    pub found_here : (f : Found) → MoveFrom net set low high (Some f) → MoveFrom net set from end (Some f)
    found_here f got = record {
      number = sym (from_found (move_keeps net set) from end f.number (omega (arith, starts, got.number, from_start (move_keeps net set) low high some))
          (omega (arith, ends, got.within)) (ap (move_keeps net set) got.number ∙ from_holds (move_keeps net set) low high some)
          (λ i a l. passed i a (omega (arith, got.number))));
      within = omega (arith, ends, got.within);
      leads = got.leads;
    }
      where
        some : least_from (move_keeps net set) low high < high
        some = omega (arith, got.number, got.within)

    pub none_here : MoveFrom net set low high None → NoneBefore net set from end (block + 1)
    none_here got = record { none = λ i a b l. passed i a (omega (arith, ends, got.number)) }
