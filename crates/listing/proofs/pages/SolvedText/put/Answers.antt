-- `listing::pages::Solved` puts verdict and counts, and then the lines that the verdict calls for. Assumes nothing.
use mathlib.Core.Path.{sym, ap, ◌∙◌}
use Rattle.listing.specs.Page.{verdict_word}
use Rattle.listing.proofs.Laws.Listing.{added_realizable, added_unrealizable}
use Rattle.listing.proofs.pages.SolvedText.put.Goals as goal

pub returns-then-realizable : goal.returns-then-realizable
returns-then-realizable c =
    let s = c.args.self.now in
    added_realizable s.counts s.solution.now (sym c.is_inside-realizable.ensures ∙ c.if-realizable.true)
    (c.word_of.ensures ∙ ap verdict_word c.if-realizable.true) c.numbers-states.ensures c.bytes.ensures c.line.ensures c.in_turn.ensures

pub returns-else-realizable : goal.returns-else-realizable
returns-else-realizable c =
    let s = c.args.self.now in
    added_unrealizable s.counts s.solution.now (sym c.is_inside-realizable.ensures ∙ c.if-realizable.false)
    (c.word_of.ensures ∙ ap verdict_word c.if-realizable.false) c.numbers-states.ensures c.bytes.ensures c.line.ensures c.in_turn-else-realizable.ensures
