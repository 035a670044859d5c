-- `solver::rounds::Room::round` meets its contract: what is passed is as the round says, the rest as before.
use Prim.Native.Nat.{◌^◌}
use native.Mathlib.Omega.{arith}
use mathlib.Core.Path.{◌≡◌, ap, ◌∙◌}
use lib.ListN.{length}
use Rattle.std.proofs.Common.{rules}
use Rattle.below.specs.Table.{table}
use Rattle.below.proofs.Laws.Filled.{filled_end}
use Rattle.circuit.specs.Limits.{base}
use Rattle.keeping.specs.RankList.{ranks_in}
use Rattle.net.specs.Net.{net_latches}
use Rattle.solver.specs.Inner.AttacksAfter.{attacks_after}
use Rattle.solver.specs.RankTable.{round_table}
use Rattle.solver.proofs.rounds.Room.round.Goals as goal

pub returns-clause-after : goal.returns-clause-after
unfolding round_table ranks_in
returns-clause-after c = let l = c.loop-state in
    let filled = rw c.new-search.ensures.0 at l.invariant.ranks in
    let long : length c.args.ranks ≡ 2 ^ base.latches = search rules in
    filled_end _ _ (2 ^ net_latches c.args.self.now.net.now) l.state l.after filled (omega (arith, c.states-state-end.ensures.value, l.auto.state-end))
    ∙ ap (table _) long

pub returns-clause-attacks : goal.returns-clause-attacks
unfolding attacks_after
returns-clause-attacks c = let l = c.loop-state in
    let filled = rw c.new-search.ensures.0 at l.invariant.attacks in
    filled_end _ _ (2 ^ net_latches c.args.self.now.net.now) l.state l.attacks filled (omega (arith, c.states-state-end.ensures.value, l.auto.state-end))
