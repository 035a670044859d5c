-- `Rest::definers` meets its contract: gate by gate. Assumes nothing.
use Prim.Native.Nat.{ℕ, ◌+◌, ◌/◌, ◌<◌}
use native.Mathlib.Omega.{arith}
use lib.ListN.{get_or}
use mathlib.Core.Bool.{not}
use mathlib.Core.List.{List}
use mathlib.Core.Path.{◌≡◌, sym, ap, ◌∙◌, subst}
use Rattle.std.specs.Prelude.{Option, None, is_some}
use Rattle.circuit.specs.Limits.{base}
use Rattle.circuit.specs.Literal.{variable}
use Rattle.reader.specs.Inner.Rows.{cell}
use Rattle.reader.proofs.Laws.DefinersLoop.{Entered, cell_part, entered_start, entered_first, entered_again, entered_ends}
use Rattle.reader.proofs.rest.Rest.definers.Goals as goal
use Rattle.reader.proofs.rest.Rest.definers.Goals.{After-from-v, then-is_none, else-is_none}

pub loop-j-init : goal.loop-j-init
loop-j-init c = entered_start c.args.body.now.rows _ c.filled-definers.result c.filled-definers.ensures

-- the variable that a gate defines
own : (c : After-from-v) → c.from-v.result ≡ cell c.args.body.now.rows (c.args.self.now.header.inputs + c.args.self.now.header.latches + 1 + c.loop-j.j) 0 / 2
unfolding cell
own c =
    let h = c.args.self.now.header in
    let low : c.loop-j.j < h.gates = omega (arith, c.gate_rows-own-items.ensures.all, c.loop-j-test.true) in
    c.from-v.ensures ∙ ap (λ (rows : List (List ℕ)). cell rows c.loop-j.j 0 / 2) c.gate_rows-own-items.ensures.rows
    ∙ ap (λ (n : ℕ). n / 2) (cell_part c.args.body.now.rows (h.inputs + h.latches + 1) h.gates c.loop-j.j 0 low)

low : (c : After-from-v) → c.from-v.result < base.variable + 1
low c = omega (arith, c.args.body.now.literals (c.args.self.now.header.inputs + c.args.self.now.header.latches + 1 + c.loop-j.j) 0, own c)

pub bounds-definers-v : goal.bounds-definers-v
bounds-definers-v c = low c

pub bounds-definers-v-then-is_none : goal.bounds-definers-v-then-is_none
bounds-definers-v-then-is_none c = low (goal.at.bounds-definers-v-then-is_none c).After-from-v

pub loop-j-preserved : goal.loop-j-preserved
unfolding variable cell
loop-j-preserved c =
    let b = c.args.body.now in
    let first = c.args.self.now.header.inputs + c.args.self.now.header.latches + 1 in
    let l = c.loop-j in
    let from = (goal.at.loop-j-preserved c).After-from-v in
    let some : is_some (get_or l.definers c.from-v.result None) ≡ not c.is_none.result = c.is_none.ensures in
    elim c.if-is_none.branch [
      | then-is_none w ↦ subst (λ (d : List (Option ℕ)). Entered b.rows first d (l.j + 1)) (sym w.definers-is)
          (entered_first b.rows first l.definers l.j l.invariant c.from-v.result (own from) (omega (arith, low from, l.invariant.long))
          (some ∙ ap not w.if-is_none.true))
      | else-is_none w ↦ subst (λ (d : List (Option ℕ)). Entered b.rows first d (l.j + 1)) (sym w.definers-is)
          (entered_again b.rows first l.definers l.j l.invariant c.from-v.result (own from) (some ∙ ap not w.if-is_none.false))
    ]

pub returns : goal.returns
returns c =
    let l = c.loop-j in
    entered_ends c.args.body.now.rows _ l.definers l.j c.args.self.now.header.gates l.invariant
    (omega (arith, c.loop-j-test.false, l.auto.j-end, c.gate_rows-own-items.ensures.all))
