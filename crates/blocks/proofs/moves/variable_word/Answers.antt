-- `blocks::moves::variable_word` meets its contract: variable 0 is false, another the bit before it.
use native.Mathlib.Omega.{arith}
use mathlib.Core.Path.{sym, ap, ◌∙◌}
use Prim.Native.Nat.{◌-◌}
use Rattle.net.specs.Net.{with_move}
use Rattle.net.proofs.Laws.Move.{with_move_at, with_move_none}
use Rattle.blocks.specs.Lane.{move_in}
use Rattle.blocks.proofs.Laws.Lane.{lane_none}
use Rattle.blocks.proofs.moves.variable_word.Goals as goal

pub returns-then-v-eq0 : goal.returns-then-v-eq0
returns-then-v-eq0 c = let a = c.args in λ bits j h f. lane_none j ∙ sym (with_move_none bits (move_in a.block j))
    ∙ ap (with_move bits (move_in a.block j)) (sym c.if-v-eq0.true)

pub returns-else-v-eq0 : goal.returns-else-v-eq0
returns-else-v-eq0 c = let a = c.args in λ bits j h f. c.bit_word.ensures j f
    ∙ sym (with_move_at bits (move_in a.block j) a.v (a.v - 1) (omega arith) (omega arith))
