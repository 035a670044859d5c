-- A record that is written, of its kind and its contents. Assumes nothing.
use Rattle.std.specs.Prelude.{ℕ, List}
use Rattle.std.specs.Borrow.{Bor}
use Rattle.records.specs.Kinds.{kind_number}
use Rattle.records.specs.Record.{record_of}
use Rattle.records.specs.declared.kinds.Kind.{Kind}

abbrev pub bytes_of : Kind × Bor (List ℕ) → List ℕ
bytes_of r = record_of (kind_number r.0) r.1.now
