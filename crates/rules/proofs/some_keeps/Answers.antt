-- `rules::some_keeps` meets its contract: the lanes are tried in turn. Assumes nothing.
use Rattle.std.proofs.Common.{ℕ, ◌-◌, ◌∙◌, min, refl, rules, tests}
use Rattle.std.proofs.lemmas.Iterator.{YieldsList-from_range}
use Rattle.std.proofs.lemmas.Iterator.Search.{any_from_yields_List}
use Rattle.blocks.specs.Lane.{lits_in, width}
use Rattle.game.specs.NetGame.{keeps_by}
use Rattle.game.specs.Rank.{not_ranked}
use Rattle.records.specs.AttackTable.{stored_rank}
use Rattle.rules.proofs.Laws.Lanes.{some_from}
use Rattle.rules.proofs.some_keeps.Goals as goal

pub returns : goal.returns
unfolding keeps_by
returns c =
    let a = c.args in
    let keeps = λ (j : ℕ). keeps_by (not_ranked (stored_rank a.table.now a.latches) a.bound) a.net.now (lits_in a.words.now j) in
    any_from_yields_List keeps _ _ _ c.any.ensures.ran
    (YieldsList-from_range a.from (min a.end width) (min a.end width - a.from) (λ i. record { start = a.from; end = c.min.ensures i }) refl)
    (λ x b q k. search (rules, tests))
    ∙ some_from keeps a.from (min a.end width - a.from)
