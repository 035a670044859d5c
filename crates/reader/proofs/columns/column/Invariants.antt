-- What `reader::columns::column` keeps from turn to turn: so many numbers are there, and zeros behind them. Assumes nothing.
use mathlib.Core.List.{List}
use Prim.Native.Nat.{ℕ}
use lib.ListN.{get_or}
use Rattle.reader.proofs.Laws.ColumnLoop.{Filling}
use Rattle.reader.proofs.columns.column.Given as goal

abbrev pub invariant-loop-k : goal.invariant-loop-k
invariant-loop-k g l = Filling (λ (row : List ℕ). get_or row l.which 0) l.rows g.row.N l.out l.k
