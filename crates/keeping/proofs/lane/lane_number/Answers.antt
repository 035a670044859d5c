-- `keeping::lane::lane_number` meets its contract: the bits of the words taken, from the last back, add up to the number.
use Prim.Native.Nat.{◌<◌}
use native.Mathlib.Omega.{arith}
use mathlib.Core.List.{reverse}
use mathlib.Core.Path.{◌≡◌, ap, ◌∙◌}
use lib.ListN.{length, take, get_or}
use Rattle.std.proofs.lemmas.Iterator.Adapters.{YieldsList-from_rev_slice}
use Rattle.std.proofs.lemmas.Iterator.Consumers.{YieldsList-turn, YieldsList-end}
use Rattle.std.proofs.lemmas.List.{length_push}
use Rattle.bits.specs.Bit.{one_if}
use Rattle.circuit.specs.Limits.{base}
use Rattle.keeping.proofs.Laws.InLane.{byte_is, taken_none, taken_next, next_fits, taken_all}
use Rattle.keeping.proofs.lane.lane_number.Goals as goal
use Rattle.keeping.proofs.lane.lane_number.Goals.{In-Some}

-- the word of this turn
turn : (c : In-Some) → (length c.loop-word.yielded < length (reverse (take base.latches c.args.words.now)))
    × (c.in-Some.word.now ≡ get_or (reverse (take base.latches c.args.words.now)) (length c.loop-word.yielded) c.in-Some.word.now)
turn c = let l = c.loop-word in
    YieldsList-turn (YieldsList-from_rev_slice (take base.latches c.args.words.now) cc) l.yielded _ l.yielded_by _ _
    c.in-Some.word c.in-Some.is c.next.ensures.steps

pub loop-word-init : goal.loop-word-init
loop-word-init c = taken_none c.args.words.now c.args.j

pub overflow_mul-number : goal.overflow_mul-number
overflow_mul-number c = let l = c.loop-word in
    omega (arith, next_fits c.args.words.now c.args.j (length l.yielded) l.number c.in-Some.word.now l.invariant (turn c))

pub overflow_add-number : goal.overflow_add-number
overflow_add-number c = let l = c.loop-word in
    omega (
      arith,
      next_fits c.args.words.now c.args.j (length l.yielded) l.number c.in-Some.word.now l.invariant (turn (goal.at.overflow_add-number c).In-Some),
      c.from.ensures ∙ byte_is c.is_lane.result ∙ ap one_if c.is_lane.ensures,
    )

pub loop-word-preserved : goal.loop-word-preserved
loop-word-preserved c = let l = c.loop-word in
    rw (length_push l.yielded c.in-Some.word, c.from.ensures ∙ byte_is c.is_lane.result ∙ ap one_if c.is_lane.ensures)
    (taken_next c.args.words.now c.args.j (length l.yielded) l.number c.in-Some.word.now l.invariant (turn (goal.at.loop-word-preserved c).In-Some))

pub returns : goal.returns
returns c = let l = c.loop-word in
    let t = YieldsList-end (YieldsList-from_rev_slice (take base.latches c.args.words.now) cc) l.yielded _ l.yielded_by _ _ c.in-None.is c.next.ensures.steps in
    taken_all c.args.words.now c.args.j (length l.yielded) l.number l.invariant t.1
