-- The code's answer for a record at a place (01, "The certificate"): its kind and where its contents lie; none where it is cut short.
-- Assumes nothing.
use Rattle.std.specs.Prelude.{ℕ, ◌+◌, List, length, Option, Some, None}
use Rattle.records.specs.Record.{Split, whole, cut, head_length}
use Rattle.records.specs.declared.record.Record.{Record}
use Rattle.records.specs.declared.record.Span.{Span}

-- where the contents of a record lie that starts at a place
abbrev pub contents_at : ℕ → List ℕ → Span
contents_at at contents = record { start = at + head_length; end = at + head_length + length contents }

unfoldable pub record_at : ℕ → Split → Option Record
record_at at (whole kind contents rest) = Some (record { kind = kind; contents = contents_at at contents })
record_at at cut = None
