-- The gates' rows in an order, gate by gate; and the place of each gate there. Assumes nothing.
use Prim.Native.Nat.{ℕ, ◌+◌, ◌<◌, ◌≤◌}
use native.Mathlib.Decide.{ℕ_discrete}
use native.Mathlib.Omega.{arith}
use mathlib.Core.List.{List, [], map, map-map}
use mathlib.Core.Path.{◌≡◌, sym, ap, ◌∙◌}
use lib.ListN.{length, get_or, take, drop, set, length-set, length-map}
use lib.Seq.{ext_get_or, get_or-take, get_or-drop, get_or-set_same, get_or-set_other, length-take-le}
use Rattle.below.specs.Table.{table}
use Rattle.below.proofs.Laws.Table.{length_table, get_or_table, map_table, table_get_or, table_same}
use Rattle.circuit.specs.Limits.{base}
use Rattle.circuit.specs.Stored.{padded}
use Rattle.order.specs.Place.{place_in}
use Rattle.order.proofs.Laws.Place.{get_or_within, place_below, gate_at-place}
use Rattle.reader.specs.Inner.OrderedAs.{InOrder}
use Rattle.reader.specs.Inner.Rows.{cell}
use Rattle.reader.specs.Inner.ValueOf.{ordered_column}
use Rattle.reader.proofs.Laws.ColumnLoop.{padded-is, get_or-map}
use Rattle.reader.proofs.Laws.Zeros.{zeros_at}

module _ (order : List ℕ) (n : ℕ) (all : InOrder order n) where
  pub gate_below : (k : ℕ) → k < length order → get_or order k 0 < n
  gate_below k h =
      let low : k < n = omega (arith, all.ordered.long) in
      omega (arith, all.ordered.within k low, get_or_within order k 0 n h)

  pub order_long : length order ≡ n
  order_long = all.ordered.long

-- k rows are there
pub record Sorting (rows : List (List ℕ)) (order : List ℕ) (out : List (List ℕ)) (k : ℕ) : Type 0 where
  pub long : length out ≡ base.variable
  pub done : (j : ℕ) → j < k → get_or out j [] ≡ get_or rows (get_or order j 0) []

pub sorting_ends : (rows : List (List ℕ)) (order : List ℕ) (out : List (List ℕ)) (k : ℕ) → Sorting rows order out k → k ≡ length order
    → length order ≤ base.variable → take (length order) out ≡ map (λ i. get_or rows i []) order
sorting_ends rows order out k w all few =
    let long : length (take (length order) out) ≡ length order = length-take-le (length order) out (omega (arith, w.long)) in
    ext_get_or [] (take (length order) out) (map (λ i. get_or rows i []) order) (long ∙ sym (length-map order (λ i. get_or rows i [])))
    (λ i l.
    get_or-take (length order) out i [] (omega (arith, long)) ∙ w.done i (omega (arith, long))
    ∙ sym (get_or-map (λ j. get_or rows j []) order i 0 [] (omega (arith, long))))

-- a column of the gates in their order, by the rows of all lines
pub column_in_order : (rows : List (List ℕ)) (start n : ℕ) (order : List ℕ) (which : ℕ) → InOrder order n
    → map (λ (r : List ℕ). get_or r which 0) (map (λ i. get_or (take n (drop start rows)) i []) order) ≡ ordered_column rows start order which
unfolding ordered_column cell
column_in_order rows start n order which all =
    map-map (λ (r : List ℕ). get_or r which 0) (λ i. get_or (take n (drop start rows)) i []) order
    ∙ ap (map (λ i. get_or (get_or (take n (drop start rows)) i []) which 0)) (sym (table_get_or order 0))
    ∙ map_table (λ i. get_or (get_or (take n (drop start rows)) i []) which 0) (λ k. get_or order k 0) (length order)
    ∙ table_same _ _ (length order) (λ k l. ap (λ (r : List ℕ). get_or r which 0)
    (get_or-take n (drop start rows) (get_or order k 0) [] (gate_below order n all k l) ∙ get_or-drop start rows (get_or order k 0) []))
    ∙ sym (map_table (λ i. get_or (get_or rows (start + i) []) which 0) (λ k. get_or order k 0) (length order))
    ∙ ap (map (λ i. get_or (get_or rows (start + i) []) which 0)) (table_get_or order 0)

-- k gates have their places
pub record Standing (order out : List ℕ) (k : ℕ) : Type 0 where
  pub long : length out ≡ base.variable
  pub done : (j : ℕ) → j < k → get_or out (get_or order j 0) 0 ≡ j
  pub zeros : (i : ℕ) → length order ≤ i → get_or out i 0 ≡ 0

module _ (order : List ℕ) (all : InOrder order (length order)) (few : length order ≤ base.variable) where
  pub standing_starts : (out : List ℕ) → out ≡ table (λ i. 0) base.variable → Standing order out 0
  standing_starts out e =
      record {
        long = ap length e ∙ length_table {A = ℕ} (λ i. 0) base.variable;
        done = λ j h. absurd (omega arith);
        zeros = λ i h. ap (λ (l : List ℕ). get_or l i 0) e ∙ zeros_at base.variable i;
      }

  module _ (out : List ℕ) (k : ℕ) (w : Standing order out k) where
    pub standing_more : k < length order → (gate : ℕ) → gate ≡ get_or order k 0 → Standing order (set out gate k) (k + 1)
    standing_more h gate e =
        record {
          long = length-set out gate k ∙ w.long;
          done = λ j l. elim (ℕ_discrete j k) [
            | yes s ↦ here j s
            | no d ↦ get_or-set_other out gate (get_or order j 0) k 0 (apart j (omega arith) d)
                ∙ w.done j (omega arith)
          ];
          zeros = λ i l. get_or-set_other out gate i k 0 (λ q. omega (arith, gate_below order (length order) all k h, e)) ∙ w.zeros i l;
        }
      where
        here : (j : ℕ) → j ≡ k → get_or (set out gate k) (get_or order j 0) 0 ≡ j
        here j s = rw (s, sym e) (get_or-set_same out gate k 0 (omega (arith, gate_below order (length order) all k h, e, w.long, few)))

        apart : (j : ℕ) → j < length order → (j ≡ k → ⊥) → get_or order j 0 ≡ gate → ⊥
        apart j l d q =
            d (all.ordered.once j k l h (get_or_within order j (length order) 0 l ∙ q ∙ e ∙ get_or_within order k 0 (length order) h))

    pub standing_ends : k ≡ length order → out ≡ padded base.variable (table (place_in order) (length order))
    standing_ends s =
        padded-is base.variable out (table (place_in order) (length order)) w.long (omega (arith, long, few))
        (λ i l. at i (omega (arith, long)) ∙ sym (get_or_table (place_in order) (length order) i 0 (omega (arith, long))))
        (λ i l. w.zeros i (omega (arith, long)))
      where
        long : length (table (place_in order) (length order)) ≡ length order
        long = length_table (place_in order) (length order)

        at : (i : ℕ) → i < length order → get_or out i 0 ≡ place_in order i
        at i l =
            let low : place_in order i < length order = place_below all.uses (length order) order all.ordered i l in
            let found : get_or order (place_in order i) 0 ≡ i =
            get_or_within order (place_in order i) 0 (length order) low ∙ gate_at-place all.uses (length order) order all.ordered i l in
            ap (λ (g : ℕ). get_or out g 0) (sym found) ∙ w.done (place_in order i) (omega arith)
