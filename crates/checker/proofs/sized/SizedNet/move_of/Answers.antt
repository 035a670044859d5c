-- `checker::sized::SizedNet::move_of` meets its contract: no count is above its limit. Assumes nothing.
use Rattle.std.proofs.Common.{◌∙◌, min, arith}
use Rattle.checker.proofs.Laws.Moves.{limited_move, move_few}
use Rattle.checker.proofs.sized.SizedNet.move_of.Goals as goal

pub returns-clause-value : goal.returns-clause-value
returns-clause-value c = c.move_of.ensures ∙ limited_move c.args.self c.args.state c.args.reading c.args.control

pub returns-clause-few : goal.returns-clause-few
returns-clause-few c =
    let n = c.args.self.counts in
    omega (
      arith,
      c.move_of.ensures,
      move_few (min n.latches 10) (min n.readings 13) (min n.controls 13) c.args.state c.args.reading c.args.control (omega arith) (omega arith) (omega arith),
    )
