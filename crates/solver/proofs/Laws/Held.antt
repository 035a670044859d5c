-- What holds of the planes held: those of a block that was evaluated say what its moves do, a slot that is put leaves the others as they are,
-- and a slot that is marked with a block says what its moves do. Assumes nothing.
use Prim.Native.Nat.{ℕ, ◌+◌, ◌-◌, ◌%◌, ◌<◌, min}
use native.Mathlib.Omega.{arith}
use native.Mathlib.Decide.{ℕ_discrete}
use mathlib.Core.Bool.{Bool, not, ◌&&◌}
use mathlib.Core.List.{List}
use mathlib.Core.Path.{◌≡◌, sym, ap, ap₂, ◌∙◌}
use lib.ListN.{length, get_or, take, drop, set, length-take, length-drop, length-set}
use lib.Seq.{get_or-take, get_or-set_same, get_or-set_other}
use Rattle.below.specs.Table.{table}
use Rattle.below.proofs.Laws.Table.{length_table, get_or_table, table_same}
use Rattle.bits.specs.Bit.{one_if}
use Rattle.bits.specs.Digits.{sum}
use Rattle.blocks.specs.Evaluated.{literals, evaluated, error_in, next_in}
use Rattle.blocks.specs.Lane.{width, lane, move_in, lits_in}
use Rattle.blocks.proofs.Laws.Evaluated.{block_error, block_next}
use Rattle.blocks.proofs.Laws.LookUp.{next_bit, next_is-sum}
use Rattle.circuit.specs.Limits.{base}
use Rattle.keeping.specs.Inner.InLane.{number_of, lane_number, keeps_in}
use Rattle.net.specs.InOrder.{InOrder}
use Rattle.net.specs.Net.{net_latches, net_nexts, net_output, net_error, net_next}
use Rattle.solver.specs.Inner.Moves.{move_keeps}
use Rattle.solver.specs.Inner.Planes.{planes_of, slot_at, HeldAt, AllHeld, Holds}
use Rattle.solver.specs.declared.planes.Slot.{Slot}

number_same : (word other : ℕ → ℕ) (n j : ℕ) → ((k : ℕ) → k < n → word k ≡ other k) → number_of word n j ≡ number_of other n j
unfolding number_of
number_same word other n j e = ap (sum 2) (table_same _ _ n (λ k h. ap (λ (w : ℕ). one_if (lane w j)) (e k h)))

-- the planes of a block that was evaluated
module _ (net : List ℕ) (order : InOrder net) (before words : List ℕ) (block : ℕ)
    (done : (j : ℕ) → j < width → lits_in words j ≡ evaluated net (move_in block j) (lits_in before j)) where
  word : ℕ → ℕ
  word k = get_or words (get_or net (4 + k) 0 % literals) 0

  error_is : (j : ℕ) → j < width → lane (get_or words (net_output net % literals) 0) j ≡ net_error net (move_in block j)
  unfolding error_in lits_in
  error_is j h = ap (error_in net) (done j h) ∙ block_error net order (move_in block j) (lits_in before j)

  nexts_long : min base.latches (length (net_nexts net)) ≡ net_latches net
  unfolding net_nexts
  nexts_long = omega (arith, length-take (net_latches net) (drop 4 net), length-drop 4 net, order.states, order.long)

  number_is : (j : ℕ) → number_of word (net_latches net) j ≡ next_in net (lits_in words j)
  unfolding number_of next_bit lits_in word
  number_is j = ap (sum 2) (ap (table (next_bit net (lits_in words j))) (sym nexts_long)) ∙ sym (next_is-sum net (lits_in words j))

  next_is : (j : ℕ) → j < width → number_of (λ k. get_or (table word base.latches) k 0) (net_latches net) j ≡ net_next net (move_in block j)
  next_is j h =
      number_same (λ k. get_or (table word base.latches) k 0) word (net_latches net) j (λ k l. get_or_table word base.latches k 0 (omega (arith, order.states)))
      ∙ number_is j ∙ ap (next_in net) (done j h) ∙ block_next net order (move_in block j) (lits_in before j)

  pub planes_held : HeldAt net (planes_of net words (block + 1))
  unfolding move_keeps planes_of word
  planes_held = record {
    long = length_table (λ k. get_or words (get_or net (4 + k) 0 % literals) 0) base.latches;
    says = λ some j h set. ap₂ {C = Bool} (λ b t. not b && set t) (error_is j h) (next_is j h)
        ∙ ap (λ (m : ℕ). not (net_error net (move_in m j)) && set (net_next net (move_in m j))) {x = block} {y = block + 1 - 1} (omega arith);
  }

-- a slot that is put is held, and the others as before
pub held_put : (net : List ℕ) (slots : List Slot) (i : ℕ) (slot : Slot) → AllHeld net slots → i < length slots → HeldAt net slot
    → AllHeld net (set slots i slot)
held_put net slots i slot all h held = record { at = at }
  where
    at : (o : ℕ) → o < length (set slots i slot) → HeldAt net (slot_at (set slots i slot) o)
    at o l = elim (ℕ_discrete o i) [
      | yes e ↦ rw (e, get_or-set_same slots i slot) held
      | no d ↦ rw (get_or-set_other slots i o slot) (all.at o (omega (arith, length-set slots i slot)))
    ]

-- a slot that is marked with a block says what its moves do
pub held_says : (net : List ℕ) (slots : List Slot) (i block : ℕ) (next : List ℕ) → InOrder net → AllHeld net slots → Holds slots i block
    → next ≡ take (net_latches net) (slot_at slots i).next → (j : ℕ) → j < width → (set : ℕ → Bool)
    → keeps_in set (slot_at slots i).error next j ≡ move_keeps net set (move_in block j)
unfolding keeps_in lane_number
held_says net slots i block next order all holds e j h set =
    ap (λ (n : ℕ). not (lane slot.error j) && set n) number ∙ (all.at i holds.within).says (omega (arith, holds.marked)) j h set
    ∙ ap (λ (m : ℕ). move_keeps net set (move_in m j)) {x = slot.mark - 1} {y = block} (omega (arith, holds.marked))
  where
    slot : Slot
    slot = slot_at slots i

    some : min (length next) base.latches ≡ net_latches net
    some = omega (arith, ap length e, length-take (net_latches net) slot.next, (all.at i holds.within).long, order.states)

    number : number_of (λ k. get_or next k 0) (min (length next) base.latches) j ≡ number_of (λ k. get_or slot.next k 0) (net_latches net) j
    number = ap (λ (n : ℕ). number_of (λ k. get_or next k 0) n j) some ∙ number_same (λ k. get_or next k 0) (λ k. get_or slot.next k 0) (net_latches net) j
        (λ k l. ap (λ (l : List ℕ). get_or l k 0) e ∙ get_or-take (net_latches net) slot.next k 0 l)
