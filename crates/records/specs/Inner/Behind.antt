-- The shape of a certificate by what stands behind its circuit record, and behind its region record: wherever the bytes of those are.
-- Assumes nothing.
use Rattle.std.specs.Prelude.{List, ℕ, Option, drop, ◌≡◌}
use Rattle.records.specs.Record.{split}
use Rattle.records.specs.RecordAt.{contents_at}
use Rattle.records.specs.Shape.{shape_of}
use Rattle.records.specs.Tables.{accepted_kinds, second_of, third_of}
use Rattle.records.specs.declared.record.Span.{Span}
use Rattle.records.specs.declared.tables.Shape.{Shape}

abbrev pub BehindCircuit : (certificate : List ℕ) (circuit : Span) → Option Shape → Type 0
BehindCircuit certificate circuit r =
    (first : List ℕ) → circuit ≡ contents_at 0 first → r ≡ shape_of (second_of accepted_kinds first (split (drop circuit.end certificate)))

abbrev pub BehindRegion : (certificate : List ℕ) (circuit region : Span) → Option Shape → Type 0
BehindRegion certificate circuit region r =
    (first second : List ℕ) → circuit ≡ contents_at 0 first → region ≡ contents_at circuit.end second
    → r ≡ shape_of (third_of accepted_kinds first second (split (drop region.end certificate)))
