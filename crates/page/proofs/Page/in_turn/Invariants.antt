-- `page::Page::in_turn` adds text after text: each turn adds one more behind those before it. Assumes nothing.
use Rattle.bits.specs.InTurn.{in_turn}
use Rattle.page.specs.Added.{Added}
use Rattle.page.proofs.Page.in_turn.Given as goal

abbrev pub invariant-loop-i : goal.invariant-loop-i
invariant-loop-i g l = Added (in_turn (g.T.Texts.nth l.texts) l.i) l.initial.self l.self
