-- `Rest::uses_unknown` meets its contract: by the line's kind. Assumes nothing.
use Prim.Native.Nat.{ℕ, ◌+◌}
use mathlib.Core.Bool.{Bool, ◌||◌}
use mathlib.Core.Path.{◌≡◌, sym, ap, ◌∙◌, subst}
use Rattle.fields.specs.Inner.Marks.{unmarked}
use Rattle.lines.specs.Inner.Headed.{said}
use Rattle.lines.specs.Inner.Kinds.{kind_at}
use Rattle.lines.specs.declared.kind.Kind.{Kind}
use Rattle.reader.specs.Inner.DefinedAs.{any_unmarked}
use Rattle.reader.specs.Inner.Rows.{cell, late_at}
use Rattle.reader.proofs.Laws.Late.{used_by, used_one, late_by, one_unmarked, two_unmarked}
use Rattle.reader.proofs.rest.Rest.uses_unknown.Goals as goal
use Rattle.reader.proofs.rest.Rest.uses_unknown.Goals.{After-kind_of, After-is_unknown-second}

-- what the line uses
late : (c : After-kind_of) → late_at (said c.args.self.now.header) c.args.body.now.rows c.args.k
    ≡ used_by c.kind_of.result (cell c.args.body.now.rows (c.inputs.result + c.args.k) 0) (cell c.args.body.now.rows (c.inputs.result + c.args.k) 1)
    (cell c.args.body.now.rows (c.inputs.result + c.args.k) 2)
late c =
    let a = c.args in
    let h = said a.self.now.header in
    let rows = a.body.now.rows in
    subst (λ (i : ℕ). late_at h rows a.k ≡ used_by c.kind_of.result (cell rows (i + a.k) 0) (cell rows (i + a.k) 1) (cell rows (i + a.k) 2))
    (sym c.inputs.ensures)
    (late_by h rows a.k ∙ ap (λ (t : Kind). used_by t (cell rows (h.inputs + a.k) 0) (cell rows (h.inputs + a.k) 1) (cell rows (h.inputs + a.k) 2))
    (sym (c.kind_of.ensures ∙ ap (λ (i : ℕ). kind_at h (i + a.k)) c.inputs.ensures)))

pub returns-in-Output : goal.returns-in-Output
unfolding cell
returns-in-Output c = rw (late (goal.at.returns-in-Output c).After-kind_of, c.in-Output.is)
    (c.is_unknown.ensures ∙ ap (unmarked c.args.body.now.defined) c.from.ensures ∙ one_unmarked c.args.body.now.defined _)

-- a gate's operands
either : (c : After-is_unknown-second) → (c.is_unknown-first.result || c.is_unknown-second.result)
    ≡ any_unmarked c.args.body.now.defined (late_at (said c.args.self.now.header) c.args.body.now.rows c.args.k)
unfolding cell
either c =
    let marks = c.args.body.now.defined in
    rw (late (goal.at.After-is_unknown-second c).After-kind_of, c.in-Gate.is)
    (two_unmarked marks _ _ c.is_unknown-first.result c.is_unknown-second.result (c.is_unknown-first.ensures ∙ ap (unmarked marks) c.from-in-Gate.ensures)
    (c.is_unknown-second.ensures ∙ ap (unmarked marks) c.from-in-Gate-2.ensures))

pub returns-then-first : goal.returns-then-first
returns-then-first c =
    let told = either (goal.at.returns-then-first c).After-is_unknown-second in
    c.if-first.true ∙ sym (ap (λ (t : Bool). t || c.is_unknown-second.result) c.if-first.true) ∙ told

pub returns-else-first : goal.returns-else-first
returns-else-first c =
    let told = either (goal.at.returns-else-first c).After-is_unknown-second in
    sym (ap (λ (t : Bool). t || c.is_unknown-second.result) c.if-first.false) ∙ told

pub returns-in-Input : goal.returns-in-Input
unfolding cell
returns-in-Input c =
    let marks = c.args.body.now.defined in
    c.is_unknown-in-Input.ensures ∙ ap (unmarked marks) c.from-in-Input.ensures ∙ one_unmarked marks _
    ∙ sym (ap (any_unmarked marks) (late (goal.at.returns-in-Input c).After-kind_of ∙ used_one c.kind_of.result _ _ _ c.in-Input.is))
