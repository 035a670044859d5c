-- The code's kinds of line (01, "The file", rules 2 to 4): the rule of each, what it asks, and where it stands. Assumes nothing.
use Rattle.std.specs.Prelude.{ℕ, ◌+◌, true, false, cond, ◌&&◌, ◌||◌, List, eqb, ltb}
use Rattle.std.proofs.Math.Option.{Option}
use Rattle.circuit.specs.Literal.{too_large}
use Rattle.fields.specs.Inner.Marks.{marked}
use Rattle.lines.specs.declared.kind.Form.{Form}
use Rattle.lines.specs.declared.kind.Kind.{Kind}
use Rattle.lines.specs.declared.kind.Kind.TheVariants.{Input, Latch, Output, Gate}
use Rattle.text.specs.Header.{Header}
use Rattle.text.specs.Rules.{Rule, first_of, bad_own, input_rule, latch_rule, output_rule, gate_rule}

abbrev pub rule_of : Kind → ℕ → Rule
rule_of Input M = input_rule M
rule_of Latch M = latch_rule M
rule_of Output M = output_rule M
rule_of Gate M = gate_rule M

abbrev pub form_of : Kind → Form
form_of Input = record { fewest = 1; most = 1; defines = true }
form_of Latch = record { fewest = 2; most = 2; defines = true }
form_of Output = record { fewest = 1; most = 1; defines = false }
form_of Gate = record { fewest = 3; most = 3; defines = true }

-- the kind of line j behind the header
unfoldable pub kind_at : Header → ℕ → Kind
kind_at h j =
    cond (ltb j h.inputs) Input (cond (ltb j (h.inputs + h.latches)) Latch (cond (eqb j (h.inputs + h.latches)) Output Gate))

-- what three literals of a form call for, 0 where there is none
unfoldable pub fault_of : Form → (M : ℕ) (marks : List ℕ) (own a b : ℕ) → Option ℕ
fault_of form M marks own a b =
    first_of ((form.defines && bad_own M own) || (too_large M own || (too_large M a || too_large M b)))
    (form.defines && marked marks own)
