-- What `Rest::flags` keeps from turn to turn: what is left of the symbols equals the whole. Assumes nothing.
use Rattle.std.specs.Slice.Iter.{split_inclusive_rest}
use Rattle.std.specs.Iterator.Adapters.{enumerate_source, enumerate_count}
use Rattle.lines.specs.Inner.Headed.{said}
use Rattle.reader.proofs.Laws.SymbolLoop.{Symbolling}
use Rattle.reader.proofs.rest.Rest.flags.Given as goal

abbrev pub invariant-loop-k : goal.invariant-loop-k
invariant-loop-k l =
    Symbolling (said l.self.header) l.self.bytes.now l.at l.named l.flags (split_inclusive_rest (enumerate_source l.k-iterator)) (enumerate_count l.k-iterator)
