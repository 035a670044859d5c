-- The lines before the symbols as one run, each by the rule of its kind (01, "The file", rule 2). Assumes nothing.
use Rattle.std.specs.Prelude.{ℕ, zero, suc, ◌+◌, [], get_or}
use Rattle.circuit.specs.Outcome.{Outcome, taken, ◌>>=◌}
use Rattle.lines.specs.Inner.Kinds.{rule_of, kind_at}
use Rattle.text.specs.Header.{Header}
use Rattle.text.specs.Line.{numbers_of}
use Rattle.text.specs.Rules.{Rule}
use Rattle.text.specs.Section.{Body, judged, with_row}

-- the rule of line j behind the header, and how many lines there are
abbrev pub rule_at : Header → ℕ → Rule
rule_at h j = rule_of (kind_at h j) h.largest

abbrev pub line_count : Header → ℕ
line_count h = h.inputs + h.latches + 1 + h.gates

-- n lines from line i on; the first behind the header is line 2 of the file
unfoldable pub lined : (ℕ → Rule) → (i n : ℕ) → Body → Outcome Body
lined rule i zero b = taken b
lined rule i (suc n) b =
    judged (rule i) b.defined (2 + i) (numbers_of (rule i).count (get_or b.rest 0 []))
    >>= λ fs. lined rule (suc i) n (with_row (rule i) b fs)
