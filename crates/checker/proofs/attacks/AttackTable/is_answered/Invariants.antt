-- What `checker::attacks::AttackTable::is_answered` keeps from turn to turn: none of the controls tried keeps out. Assumes nothing.
use Rattle.game.specs.Rank.{not_ranked}
use Rattle.net.specs.Net.{net_latches}
use Rattle.records.specs.AttackTable.{stored_rank}
use Rattle.checker.proofs.Laws.Answered.{Tried}
use Rattle.checker.proofs.attacks.AttackTable.is_answered.Given as goal

abbrev pub invariant-loop-block : goal.invariant-loop-block
invariant-loop-block l =
    Tried l.self.net.numbers.now (not_ranked (stored_rank l.self.table.now (net_latches l.self.net.numbers.now)) l.bound) l.state l.reading l.first l.block
