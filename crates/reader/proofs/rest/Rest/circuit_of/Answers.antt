-- `Rest::circuit_of` meets its contract: column by column. Assumes nothing.
use Prim.Native.Nat.{ℕ, ◌+◌}
use native.Mathlib.Omega.{arith}
use lib.ListN.{length, get_or, take, drop}
use native.Mathlib.Nat.{add-zero}
use lib.Seq.{drop-drop, get_or-drop}
use mathlib.Core.List.{List, [], map}
use mathlib.Core.Path.{◌≡◌, sym, ap, ap₂, ◌∙◌, subst}
use Rattle.below.specs.Table.{table}
use Rattle.circuit.specs.Limits.{base}
use Rattle.circuit.specs.Stored.{padded}
use Rattle.lines.specs.Inner.Headed.{said}
use Rattle.order.specs.Place.{place_in}
use Rattle.reader.specs.Inner.OrderedAs.{InOrder}
use Rattle.reader.specs.Inner.Rows.{cell, column_of}
use Rattle.reader.specs.Inner.ValueOf.{ordered_column, value_of}
use Rattle.reader.proofs.Laws.ColumnLoop.{column_part}
use Rattle.reader.proofs.Laws.GatesPlaced.{placed_ordered}
use Rattle.reader.proofs.Laws.OrderLoop.{column_in_order, order_long}
use Rattle.reader.proofs.rest.Rest.circuit_of.Goals as goal
use Rattle.reader.proofs.rest.Rest.circuit_of.Goals.{After-gates-gates}

in_order : (c : After-gates-gates) → InOrder (take c.args.self.now.header.gates c.args.order.now) c.args.self.now.header.gates
in_order c = placed_ordered (said c.args.self.now.header) c.args.body.now.rows c.args.order.now c.requires

pub ordered-gate_rows-requires-clause-inside : goal.ordered-gate_rows-requires-clause-inside
ordered-gate_rows-requires-clause-inside c =
    let h = c.args.self.now.header in
    let all = in_order (goal.at.ordered-gate_rows-requires-clause-inside c).After-gates-gates in
    subst (λ (n : ℕ). InOrder (take n c.args.order.now) (length c.gate_rows.result.now)) (sym c.gates-gates.ensures)
    (subst (InOrder (take h.gates c.args.order.now)) (sym c.gate_rows.ensures.all) all)

pub places-requires-clause-all : goal.places-requires-clause-all
places-requires-clause-all c =
    let h = c.args.self.now.header in
    let all = in_order (goal.at.places-requires-clause-all c).After-gates-gates in
    subst (λ (n : ℕ). InOrder (take n c.args.order.now) (length (take n c.args.order.now))) (sym c.gates-gates.ensures)
    (subst (InOrder (take h.gates c.args.order.now)) (sym (order_long (take h.gates c.args.order.now) h.gates all)) all)

-- a column of the gates' rows in their order
abbrev number : ℕ → List ℕ → ℕ
number which row = get_or row which 0

gate_column : (rows part out : List (List ℕ)) (order : List ℕ) (start n which : ℕ) → InOrder (take n order) n → part ≡ take n (drop start rows)
    → take (length (take n order)) out ≡ map (λ i. get_or part i []) (take n order)
    → map (number which) (take n out) ≡ ordered_column rows start (take n order) which
gate_column rows part out order start n which all p e =
    ap (λ (k : ℕ). map (number which) (take k out)) (sym (order_long (take n order) n all))
    ∙ ap (map (number which)) (e ∙ ap (λ (l : List (List ℕ)). map (λ i. get_or l i []) (take n order)) p)
    ∙ column_in_order rows start n (take n order) which all

pub returns : goal.returns
unfolding value_of cell
returns c =
    let a = c.args in
    let h = a.self.now.header in
    let few = a.self.now.few in
    let rows = a.body.now.rows in
    let s = c.split_at.ensures in
    let t = c.split_at-2.ensures in
    let i = c.inputs-inputs in
    let l = c.latches-latches in
    let g = c.gates-gates in
    let latch_rows : c.split_at-2.result.0.now ≡ take l.result (drop i.result rows) = t.front ∙ ap (take l.result) s.back in
    let behind : c.split_at-2.result.1.now ≡ drop (i.result + l.result) rows = t.back ∙ ap (drop l.result) s.back ∙ drop-drop l.result i.result rows in
    let first = h.inputs + h.latches + 1 in
    let all = in_order (goal.at.returns c).After-gates-gates in
    let order = a.order.now in
    let part = c.gate_rows.result.now in
    let out = c.ordered-gate_rows.result in
    let ordered : take (length (take h.gates order)) out ≡ map (λ j. get_or part j []) (take h.gates order) =
    subst (λ (n : ℕ). take (length (take n order)) out ≡ map (λ j. get_or part j []) (take n order)) g.ensures c.ordered-gate_rows.ensures in
    let column : (which : ℕ) → map (number which) (take g.result out) ≡ ordered_column rows first (take h.gates order) which =
    λ which. ap (λ (n : ℕ). map (number which) (take n out)) g.ensures
    ∙ gate_column rows part out order first h.gates which all c.gate_rows.ensures.rows ordered in
    λ x.
    record {
      largest = h.largest;
      inputs = i.ensures x;
      latches = l.ensures x;
      gates = g.ensures x;
      input = (c.column.ensures ∙ ap (λ (r : List (List ℕ)). padded base.inputs (map (number 0) r)) s.front
          ∙ ap (padded base.inputs) (column_part rows 0 i.result 0 (omega (arith, i.ensures, few.gates, few.largest)))
          ∙ ap (λ (n : ℕ). padded base.inputs (column_of rows 0 n 0)) i.ensures) x;
      controllable = a.controllable;
      latch = (c.column-2.ensures ∙ ap (λ (r : List (List ℕ)). padded base.latches (map (number 0) r)) latch_rows
          ∙ ap (padded base.latches) (column_part rows i.result l.result 0 (omega (arith, i.ensures, l.ensures, few.gates, few.largest)))
          ∙ ap₂ (λ (j n : ℕ). padded base.latches (column_of rows j n 0)) i.ensures l.ensures) x;
      next = (c.column-3.ensures ∙ ap (λ (r : List (List ℕ)). padded base.latches (map (number 1) r)) latch_rows
          ∙ ap (padded base.latches) (column_part rows i.result l.result 1 (omega (arith, i.ensures, l.ensures, few.gates, few.largest)))
          ∙ ap₂ (λ (j n : ℕ). padded base.latches (column_of rows j n 1)) i.ensures l.ensures) x;
      output = (ap (λ (r : List (List ℕ)). get_or (get_or r 0 []) 0 0) behind ∙ ap (number 0) (get_or-drop (i.result + l.result) rows 0 []
          ∙ ap (λ (j : ℕ). get_or rows j []) (add-zero (i.result + l.result)))
          ∙ ap₂ (λ (j k : ℕ). get_or (get_or rows (j + k) []) 0 0) i.ensures l.ensures) x;
      gate = (c.column-4.ensures ∙ ap (padded base.variable) (column 0)) x;
      left = (c.column-5.ensures ∙ ap (padded base.variable) (column 1)) x;
      right = (c.column-6.ensures ∙ ap (padded base.variable) (column 2)) x;
      lines = (c.places.ensures ∙ ap (λ (n : ℕ). padded base.variable (table (place_in (take n order)) (length (take n order)))) g.ensures
          ∙ ap (λ (n : ℕ). padded base.variable (table (place_in (take h.gates order)) n)) (order_long (take h.gates order) h.gates all)) x;
    }
