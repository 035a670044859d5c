-- What the code's answer says of all lines before the symbols (01, "The file", rule 2). Assumes nothing.
use Rattle.std.specs.Prelude.{ℕ, ◌≤◌, List, ◌≡◌, length, drop, Result, Ok, Err}
use Rattle.below.specs.Table.{table}
use Rattle.circuit.specs.Fault.{number_of}
use Rattle.circuit.specs.Outcome.{taken, refused}
use Rattle.circuit.specs.declared.numbers.Refusal.{Refusal}
use Rattle.fields.specs.Inner.Marks.{Marks}
use Rattle.reader.specs.Inner.AllLines.{rule_at, line_count, lined}
use Rattle.reader.specs.Inner.Rows.{row_at}
use Rattle.reader.specs.declared.body.Body.{Body}
use Rattle.text.specs.Header.{Header}
use Rattle.text.specs.Line.{lines}
use Rattle.text.specs.Stages.{unread}

-- the lines are read up to where the reading stands, the rows hold them, and the marks say what is defined
pub record BodyAt (h : Header) (bytes : List ℕ) (b : Body) : Type 0 where
  pub defined : List ℕ
  pub says : Marks b.defined defined
  pub whole : lined (rule_at h) 0 (line_count h) (unread (lines bytes))
      ≡ taken (record { rows = table (row_at h b.rows) (line_count h); defined = defined; rest = lines (drop b.behind bytes) })
  pub within : b.behind ≤ length bytes

abbrev pub BodyAs : Header → (bytes : List ℕ) → Result Body Refusal → Type 0
BodyAs h bytes (Ok b) = BodyAt h bytes b
BodyAs h bytes (Err r) = lined (rule_at h) 0 (line_count h) (unread (lines bytes)) ≡ refused (number_of r.fault) r.place
