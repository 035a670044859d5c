-- The records are put one by one. Assumes nothing.
use Rattle.std.proofs.Common.{take}
use Rattle.std.specs.List.{flat_map}
use Rattle.page.specs.Added.{Added}
use Rattle.writer.specs.Inner.Records.{bytes_of}
use Rattle.writer.proofs.written.RecordsText.put.Given as goal

abbrev pub invariant-loop-kind : goal.invariant-loop-kind
invariant-loop-kind l = Added (flat_map bytes_of (take l.kind-index l.kind-items)) l.initial.page l.page
