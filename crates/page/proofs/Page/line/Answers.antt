-- `page::Page::line` adds the first number, then each further one as a field, and byte 10. Assumes nothing.
use Rattle.page.proofs.Laws.Line.{added_empty_line, added_fields_none, added_fields_more, added_line}
use Rattle.page.proofs.Page.line.Goals.{in-Some+else-loop-n-test, in_default}
use Rattle.page.proofs.Page.line.Goals as goal

pub loop-n-init : goal.loop-n-init
loop-n-init c = added_fields_none c.number.new.self

pub loop-n-preserved : goal.loop-n-preserved
loop-n-preserved c = added_fields_more c.in-Some.rest.now c.loop-n.n-index c.loop-n-test.true c.loop-n.invariant c.field.ensures

pub returns : goal.returns
returns c = elim c.match-split_first.branch [
  | in-Some+else-loop-n-test w ↦ added_line w.in-Some.first.now w.in-Some.rest.now w.loop-n.n-index w.in-Some.ensures.cases.0 w.loop-n-test.false w.self-is
      w.number.ensures w.loop-n.invariant c.bytes.ensures
  | in_default w ↦ added_empty_line c.args.numbers.now w.in_default.ensures.cases w.self-is c.bytes.ensures
]
