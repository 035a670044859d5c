-- A part of a list, from a start to an end; of what isn't there, nothing. Assumes nothing.
use Rattle.std.specs.Prelude.{ℕ, ◌-◌, List, take, drop}
use Rattle.records.specs.declared.record.Span.{Span}

abbrev pub part : (start end : ℕ) → List ℕ → List ℕ
part start end bytes = take (end - start) (drop start bytes)

abbrev pub bytes_of : Span → List ℕ → List ℕ
bytes_of span bytes = part span.start span.end bytes
