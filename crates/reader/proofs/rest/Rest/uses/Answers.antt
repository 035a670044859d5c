-- `Rest::uses` meets its contract: gate by gate. Assumes nothing.
use Prim.Native.Nat.{ℕ, ◌+◌, ◌*◌, ◌<◌}
use native.Mathlib.Omega.{arith}
use lib.ListN.{length}
use mathlib.Core.List.{List}
use mathlib.Core.Path.{◌≡◌, ap, ap₂, ◌∙◌, subst}
use Rattle.below.proofs.Laws.Filled.{Filled}
use Rattle.below.proofs.Laws.Table.{length_table}
use Rattle.circuit.specs.Limits.{base}
use Rattle.reader.specs.Inner.Definers.{definer_in, operand_at}
use Rattle.reader.specs.Inner.Rows.{cell}
use Rattle.reader.proofs.Laws.DefinersLoop.{cell_part, pair_more, uses_front}
use Rattle.reader.proofs.rest.Rest.uses.Goals as goal
use Rattle.reader.proofs.rest.Rest.uses.Goals.{In-loop-i}

-- an operand of the gate at hand
operand : (c : In-loop-i) (which : ℕ) → cell c.gate_rows-left-items.result.now c.loop-i.i which
    ≡ cell c.args.body.now.rows (c.args.self.now.header.inputs + c.args.self.now.header.latches + 1 + c.loop-i.i) which
operand c which =
    let h = c.args.self.now.header in
    let low : c.loop-i.i < h.gates = omega (arith, c.gate_rows-left-items.ensures.all, c.loop-i-test.true) in
    ap (λ (rows : List (List ℕ)). cell rows c.loop-i.i which) c.gate_rows-left-items.ensures.rows
    ∙ cell_part c.args.body.now.rows (h.inputs + h.latches + 1) h.gates c.loop-i.i which low

small : (c : In-loop-i) (which : ℕ) → cell c.gate_rows-left-items.result.now c.loop-i.i which < 2 * base.variable + 2
small c which = omega (
  arith,
  operand c which,
  c.args.body.now.literals (c.args.self.now.header.inputs + c.args.self.now.header.latches + 1 + c.loop-i.i) which,
)

pub definer_of-requires : goal.definer_of-requires
unfolding cell
definer_of-requires c = small (goal.at.definer_of-requires c).In-loop-i 1

pub definer_of-requires-in-loop-i : goal.definer_of-requires-in-loop-i
unfolding cell
definer_of-requires-in-loop-i c = small (goal.at.definer_of-requires-in-loop-i c).In-loop-i 2

-- what is put for it
put : (c : In-loop-i) (which r : ℕ) → r ≡ definer_in c.definers-definers.result c.gates-gates.result (cell c.gate_rows-left-items.result.now c.loop-i.i which)
    → r ≡ definer_in c.definers-definers.result c.args.self.now.header.gates
    (cell c.args.body.now.rows (c.args.self.now.header.inputs + c.args.self.now.header.latches + 1 + c.loop-i.i) which)
put c which r e = e ∙ ap₂ (λ (n l : ℕ). definer_in c.definers-definers.result n l) c.gates-gates.ensures (operand c which)

pub loop-i-preserved : goal.loop-i-preserved
unfolding cell
loop-i-preserved c =
    let l = c.loop-i in
    let self = c.args.self.now in
    let way = (goal.at.loop-i-preserved c).In-loop-i in
    pair_more c.args.body.now.rows _ c.definers-definers.result self.header.gates l.i c.filled-uses.result l.uses l.invariant
    (omega (
      arith,
      ap length c.filled-uses.ensures,
      length_table {A = ℕ} (λ i. 0) (2 * base.variable),
      c.loop-i-test.true,
      self.few.gates,
      self.few.largest,
      c.gate_rows-left-items.ensures.all,
    ))
    c.definer_of.result c.definer_of-in-loop-i.result (put way 1 _ c.definer_of.ensures) (put way 2 _ c.definer_of-in-loop-i.ensures)

pub returns : goal.returns
returns c =
    let l = c.loop-i in
    let b = c.args.body.now in
    let self = c.args.self.now in
    let n = self.header.gates in
    let start = self.header.inputs + self.header.latches + 1 in
    let definers = c.definers-definers.result in
    let all : l.i ≡ n = omega (arith, c.loop-i-test.false, l.auto.i-end, c.gate_rows-left-items.ensures.all) in
    let filled : Filled (operand_at b.rows start definers n) c.filled-uses.result (2 * n) l.uses =
    subst (λ (i : ℕ). Filled (operand_at b.rows start definers n) c.filled-uses.result (2 * i) l.uses) all l.invariant in
    uses_front b.rows start n b.literals definers c.definers-definers.ensures c.filled-uses.result l.uses filled
    (omega (arith, ap length c.filled-uses.ensures, length_table {A = ℕ} (λ i. 0) (2 * base.variable), self.few.gates, self.few.largest))
