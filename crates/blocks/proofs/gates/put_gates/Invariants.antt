-- What `put_gates` keeps from turn to turn: in each lane, what is left to put, over what the words hold, gives the whole.
use Rattle.std.proofs.Common.{◌≡◌, ℕ, ◌+◌, ◌*◌, ◌<◌, drop}
use Rattle.blocks.specs.Evaluated.{put_gates}
use Rattle.blocks.specs.Lane.{width, lits_in}
use Rattle.blocks.proofs.Laws.Putting.{read}
use Rattle.blocks.proofs.gates.put_gates.Given as goal

abbrev pub invariant-loop-i : goal.invariant-loop-i
invariant-loop-i l =
    (j : ℕ) → j < width
    → put_gates (read l.operands l.first) l.first (lits_in l.initial.words j)
    ≡ put_gates (drop (2 * l.i) (read l.operands l.first)) (l.first + l.i) (lits_in l.words j)
