-- What `put_move` keeps from turn to turn: in each lane the variables so far are put.
use Rattle.std.proofs.Common.{◌≡◌, ℕ, ◌+◌, ◌<◌, ◌≤◌}
use Rattle.net.specs.Net.{with_move}
use Rattle.blocks.specs.Evaluated.{put_first}
use Rattle.blocks.specs.Lane.{width, move_in, lits_in}
use Rattle.blocks.proofs.moves.put_move.Given as goal

abbrev pub invariant-loop-v : goal.invariant-loop-v
invariant-loop-v l =
    (bits j : ℕ) → l.n ≤ bits + 1 → j < width
    → lits_in l.words j ≡ put_first l.v (with_move bits (move_in l.block j)) (lits_in l.initial.words j)
