-- `reader::columns::column` meets its contract: number by number. Assumes nothing.
use Prim.Native.Nat.{ℕ}
use native.Mathlib.Omega.{arith}
use lib.ListN.{get_or}
use mathlib.Core.List.{List}
use Rattle.reader.proofs.Laws.ColumnLoop.{filling_starts, filling_more, filling_ends}
use Rattle.reader.proofs.columns.column.Goals as goal

pub loop-k-init : goal.loop-k-init
loop-k-init g c = filling_starts (λ (row : List ℕ). get_or row c.args.which 0) c.args.rows.now g.row.N c.filled-out.result c.filled-out.ensures

pub loop-k-preserved : goal.loop-k-preserved
loop-k-preserved g c =
    let l = c.loop-k in
    filling_more (λ (row : List ℕ). get_or row c.args.which 0) c.args.rows.now g.row.N l.out l.k l.invariant
    (omega (arith, c.loop-k-test.true, c.requires.room))

pub returns : goal.returns
returns g c =
    let l = c.loop-k in
    filling_ends (λ (row : List ℕ). get_or row c.args.which 0) c.args.rows.now g.row.N l.out l.k l.invariant (omega (arith, c.loop-k-test.false, l.auto.k-end))
    c.requires.room
