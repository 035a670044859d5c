-- What `solver::look::Search::put_replies` keeps from turn to turn: what is passed is as the search at each place says.
use Rattle.below.proofs.Laws.Filled.{Filled}
use Rattle.solver.specs.Inner.Answers.{reply_at}
use Rattle.solver.specs.Inner.Search.{Same}
use Rattle.solver.proofs.look.Search.put_replies.Given as goal

abbrev pub invariant-loop-place : goal.invariant-loop-place
invariant-loop-place l = record {
  filled : Filled (reply_at l.initial.self.net.now l.initial.self.set.ranks.now) l.initial.replies l.place l.replies;
  same : Same l.initial.self l.self;
}
