-- `page::Page::line` adds the first number, then each further one as a field, and byte 10. Assumes nothing.
use Rattle.std.proofs.Common.{take}
use mathlib.Core.List.{flat_map}
use Rattle.page.specs.Added.{Added}
use Rattle.page.specs.Field.{field}
use Rattle.page.proofs.Page.line.Given as goal

abbrev pub invariant-loop-n : goal.invariant-loop-n
invariant-loop-n l = Added (flat_map field (take l.n-index l.rest)) l.initial.self l.self
