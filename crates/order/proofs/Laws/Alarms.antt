-- Small graphs, computed: a definition that was changed breaks here first. Assumes nothing.
use Prim.Native.Nat.{ℕ}
use mathlib.Core.Bool.{true, false}
use mathlib.Core.List.{List, [], ◌∷◌}
use mathlib.Core.Path.{◌≡◌, refl}
use Rattle.below.specs.Least.{least, any, every}
use Rattle.below.specs.Table.{table}
use Rattle.below.specs.Among.{among, member}
use Rattle.order.specs.Placing.{marked, waits, visit, visits, placed, order_of}
use Rattle.order.specs.Ordered.{stands, fits, is_ordered}
use Rattle.order.specs.Circle.{from, meets_itself, lowest_circle}

-- gate 0 uses gates 2 and 1, gate 1 uses gate 2
abbrev backwards : List ℕ
backwards = 2 ∷ 1 ∷ 2 ∷ 9 ∷ 9 ∷ 9 ∷ []

-- gate 0 uses gate 1, and gates 1 and 2 each other
abbrev into_a_cycle : List ℕ
into_a_cycle = 1 ∷ 9 ∷ 9 ∷ 2 ∷ 1 ∷ 1 ∷ []

pub operands_first : order_of backwards 3 ≡ 2 ∷ 1 ∷ 0 ∷ []
unfolding order_of placed visits visit waits marked table
operands_first = refl

pub operands_stand_before : is_ordered backwards 3 (order_of backwards 3) ≡ true
unfolding order_of placed visits visit waits marked table is_ordered every any least fits stands member among
operands_stand_before = refl

pub leading_is_no_cycle : lowest_circle into_a_cycle 3 ≡ 1
unfolding lowest_circle meets_itself from least visit waits marked table
leading_is_no_cycle = refl

pub cycle_is-not_ordered : is_ordered into_a_cycle 3 (order_of into_a_cycle 3) ≡ false
unfolding order_of placed visits visit waits marked table is_ordered every any least fits stands member among
cycle_is-not_ordered = refl
