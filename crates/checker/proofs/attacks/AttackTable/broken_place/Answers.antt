-- `checker::attacks::AttackTable::broken_place` meets its contract: the states are tried in turn. Assumes nothing.
use Rattle.std.proofs.Common.{◌≡◌, ◌^◌, ℕ, true, false, rules, tests}
use Rattle.std.proofs.lemmas.Iterator.{first_from_Range}
use Rattle.net.specs.Net.{net_latches}
use Rattle.checker.specs.Inner.Faults.{attack_fault}
use Rattle.checker.proofs.Laws.Found.{lowest_found}
use Rattle.checker.proofs.attacks.AttackTable.broken_place.Goals as goal

pub returns : goal.returns
returns c =
    let n = c.args.self.now.net.numbers.now in
    let broken = λ (s : ℕ). attack_fault n c.args.self.now.table.now s in
    lowest_found broken (2 ^ net_latches n) c.states.result c.states.ensures.number c.find.result
    (first_from_Range _ _ _ _ (λ s. broken s ≡ true) (λ s. broken s ≡ false) c.find.ensures.ran (λ x q k. search (rules, tests))
    (λ x q k. search (rules, tests)))
