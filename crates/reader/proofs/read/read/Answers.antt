-- `reader::read::read` meets its contract: length, header, limits, and then the lines, in the order of the numbers. Assumes nothing.
use native.Mathlib.Omega.{arith}
use lib.ListN.{length, length-drop}
use mathlib.Core.List.{List, [], ◌∷◌}
use mathlib.Core.Option.{none, some}
use mathlib.Core.Path.{◌≡◌, refl, sym, ap, ◌∙◌, subst}
use Prim.Native.Nat.{ℕ}
use Rattle.circuit.specs.Answer.{ReadAs}
use Rattle.circuit.specs.Circuit.{Circuit}
use Rattle.circuit.specs.Limits.{base}
use Rattle.circuit.specs.Outcome.{Outcome}
use Rattle.circuit.specs.declared.numbers.Fault.TheVariants.{FileTooLong, BadHeader, HeaderLimit}
use Rattle.circuit.specs.declared.numbers.Refusal.{Refusal}
use Rattle.lines.specs.Inner.Headed.{HeadedAs, said}
use Rattle.lines.proofs.Laws.Missing.{missing}
use Rattle.reader.proofs.Laws.Behind.{refused_as}
use Rattle.reader.proofs.Laws.FileLoop.{within_says, circuit_too_long, circuit_headless, circuit_over, circuit_lines, first_part}
use Rattle.reader.proofs.Laws.Place.{line_ends_within}
use Rattle.reader.specs.Inner.LinesAs.{circuit_of_lines}
use Rattle.text.specs.Header.{header_numbers}
use Rattle.text.specs.Line.{lines, first_line}
use Rattle.text.specs.Read.{lines_read, circuit_read}
use Rattle.reader.proofs.read.read.Goals as goal
use Rattle.reader.proofs.read.read.Goals.{After-split_at, In_ok-header}

-- the first line is the front
first : (c : After-split_at) → c.split_at.result.0.now ≡ first_line c.args.file.now
first c = c.split_at.ensures.front ∙ first_part c.args.file.now c.line_end.result c.line_end.ensures

-- and the header's numbers stand in it
numbers : (c : In_ok-header) → header_numbers (first_line c.args.file.now) ≡ some (c.in_ok-header.header.largest ∷ c.in_ok-header.header.inputs
    ∷ c.in_ok-header.header.latches ∷ c.in_ok-header.header.outputs ∷ c.in_ok-header.header.gates ∷ [])
numbers c = sym (ap header_numbers (first (goal.at.In_ok-header c).After-split_at))
    ∙ subst (HeadedAs c.split_at.result.0.now) c.in_ok-header.ensures.ok_part c.header_line.ensures

pub returns-then-file-gt-FILE : goal.returns-then-file-gt-FILE
returns-then-file-gt-FILE c =
    let file = c.args.file.now in
    refused_as (circuit_read base file) (record { fault = FileTooLong; place = 0 }) _ (circuit_too_long file c.if-file-gt-FILE.true) refl

pub split_at-requires : goal.split_at-requires
split_at-requires c = line_ends_within c.args.file.now 0 c.line_end.result c.line_end.ensures (omega arith)

pub returns-in_err-header : goal.returns-in_err-header
returns-in_err-header c =
    let file = c.args.file.now in
    let bad : Refusal = record { fault = BadHeader; place = 1 } in
    let absent = c.in_err-header.ensures.ok_part in
    let headless = subst (λ (l : List ℕ). header_numbers l ≡ none) (first (goal.at.returns-in_err-header c).After-split_at)
    (subst (HeadedAs c.split_at.result.0.now) absent c.header_line.ensures) in
    refused_as (circuit_read base file) bad c.from_residual.result (circuit_headless file c.if-file-gt-FILE.false headless)
    (missing c.header_line.result bad c.in_err-header.field-0.0 c.from_residual.result c.in_err-header.ensures.value absent c.from_residual.ensures.1)

pub returns-then-not-within : goal.returns-then-not-within
returns-then-not-within c =
    let file = c.args.file.now in
    let told = numbers (goal.at.returns-then-not-within c).In_ok-header in
    let over = circuit_over file c.if-file-gt-FILE.false (said c.in_ok-header.header) told (sym c.within.ensures ∙ c.if-not-within.true) in
    refused_as (circuit_read base file) (record { fault = HeaderLimit; place = 1 }) _ over refl

pub invariant_of-circuit : goal.invariant_of-circuit
invariant_of-circuit c =
    record {
      few = within_says (said c.in_ok-header.header) (sym c.within.ensures ∙ c.if-not-within.false);
      short = omega (arith, c.if-file-gt-FILE.false, ap length c.split_at.ensures.back, length-drop c.line_end.result c.args.file.now);
    }

pub returns : goal.returns
returns c =
    let file = c.args.file.now in
    let h = said c.in_ok-header.header in
    let told = numbers (goal.at.returns c).In_ok-header in
    let whole = circuit_lines file c.if-file-gt-FILE.false h told (sym c.within.ensures ∙ c.if-not-within.false) c.line_end.result
    c.line_end.ensures in
    subst (λ (o : Outcome Circuit). ReadAs o c.circuit.result)
    (ap (λ (l : List ℕ). circuit_of_lines (lines_read h (lines l))) c.split_at.ensures.back ∙ sym whole) c.circuit.ensures
