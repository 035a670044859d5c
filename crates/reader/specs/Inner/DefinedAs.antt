-- What the code's answer says of literals that must be defined somewhere in the file, a list for each line (01, "The numbers", the late 7; 02,
-- T-01). Assumes nothing.
use Rattle.std.specs.Prelude.{ℕ, ◌+◌, Bool, false, ◌||◌, List, [], ◌∷◌, ◌≡◌, Result}
use Rattle.below.specs.Table.{table}
use Rattle.circuit.specs.Answer.{outcome_of}
use Rattle.circuit.specs.declared.numbers.Refusal.{Refusal}
use Rattle.fields.specs.Inner.Marks.{Marks, unmarked}
use Rattle.reader.specs.Inner.Rows.{late_at}
use Rattle.text.specs.Header.{Header}
use Rattle.text.specs.Section.{used}

-- one of these is neither a constant nor marked
unfoldable pub any_unmarked : (marks literals : List ℕ) → Bool
any_unmarked marks [] = false
any_unmarked marks (l ∷ ls) = unmarked marks l || any_unmarked marks ls

-- whatever the marks say is defined
abbrev pub DefinedAs : Header → (marks : List ℕ) (rows : List (List ℕ)) → Result (Unit {0}) Refusal → Type 0
DefinedAs h marks rows r =
    (defined : List ℕ) → Marks marks defined
    → outcome_of r ≡ used defined (2 + h.inputs) (table (late_at h rows) (h.latches + 1 + h.gates))
