-- `solver::look::Search::put_replies` meets its contract: what is passed is as the search at each place says.
use Prim.Native.Nat.{◌*◌, ◌^◌}
use native.Mathlib.Omega.{arith}
use Rattle.std.proofs.Common.{rules}
use Rattle.below.proofs.Laws.Filled.{filled_next, filled_zeros}
use Rattle.circuit.specs.Limits.{base}
use Rattle.solver.specs.Inner.Moves.{places}
use Rattle.solver.proofs.look.Search.put_replies.Goals as goal

pub loop-place-preserved : goal.loop-place-preserved
loop-place-preserved c = let l = c.loop-place in
    let reply = rw (l.invariant.same.0, l.invariant.same.1) at c.reply_at.ensures.reply in record {
      filled = filled_next _ _ l.place _ l.replies l.invariant.filled (omega arith) reply;
      same = search rules;
    }

pub returns-clause-replies : goal.returns-clause-replies
returns-clause-replies c = let l = c.loop-place in
    filled_zeros _ _ (2 ^ base.latches * 2 ^ base.uncontrollable) (places c.args.self.now.net.now) l.place l.replies l.invariant.filled
    c.requires.blank (omega arith)
