-- `evaluate` meets its contract: the bits of the move, then the gates.
use Rattle.std.proofs.Common.{◌∙◌}
use Rattle.net.specs.Net.{move_bits}
use Rattle.blocks.specs.Evaluated.{evaluated}
use Rattle.blocks.proofs.Laws.LookUp.{first_gate-moved}
use Rattle.blocks.proofs.evaluate.Goals as goal

pub returns : goal.returns
unfolding evaluated
returns c =
    let net = c.args.net.now in
    let first = c.first_gate-first.ensures in
    λ j h.
    c.put_gates.ensures j h
    ∙ rw (c.operands.ensures, c.put_move.ensures (move_bits net) j (rw first (first_gate-moved net)) h, first)
