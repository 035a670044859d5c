-- `Rest::body` meets its contract: what is left of the lines equals the whole. Assumes nothing.
use borrow.Author.Rules.{rules}
use Prim.Native.Nat.{ℕ, ◌+◌}
use native.Mathlib.Omega.{arith}
use lib.ListN.{get_or, set}
use mathlib.Core.List.{List}
use mathlib.Core.Path.{◌≡◌, sym, ap, ◌∙◌, subst}
use Rattle.lines.specs.Inner.Headed.{said}
use Rattle.lines.specs.Inner.Kinds.{rule_of}
use Rattle.lines.specs.Inner.LinedAs.{LinedAs}
use Rattle.lines.specs.declared.kind.Form.{Form}
use Rattle.reader.specs.Inner.BodyAs.{BodyAs}
use Rattle.circuit.specs.declared.numbers.Fault.{Fault}
use Rattle.circuit.specs.declared.numbers.Refusal.{Refusal}
use Rattle.reader.proofs.Laws.BodyLoop.{Looping, looping_starts, looping_ends, looping_refuses, looping_goes_on, marks_after, marks_set, marks_stay}
use Rattle.reader.proofs.Laws.Place.{line_ends_within}
use Rattle.reader.proofs.Laws.Placed.{well, badly}
use Rattle.reader.proofs.rest.Rest.body.Goals as goal
use Rattle.reader.proofs.rest.Rest.body.Goals.{then-form_of, else-form_of}

pub loop-j-init : goal.loop-j-init
loop-j-init c =
    let self = c.args.self.now in
    looping_starts (said self.header) self.bytes.now c.filled-defined.result c.filled-rows.result c.filled-defined.ensures
    c.filled-rows.ensures

pub slice_bounds-bytes-end : goal.slice_bounds-bytes-end
slice_bounds-bytes-end c =
    let l = c.loop-j in
    line_ends_within c.args.self.now.bytes.now l.at c.line_end-end.result c.line_end-end.ensures l.invariant.within

pub returns-in_err-literals : goal.returns-in_err-literals
returns-in_err-literals c =
    let self = c.args.self.now in
    let l = c.loop-j in
    let e = c.line_end-end in
    let k = c.kind_of-kind in
    let placed : Fault → Refusal = λ fault. record { fault = fault; place = 2 + l.j-counter } in
    let (fault, was, is) = badly _ placed c.line.result c.map_err.result c.in_err-literals.field-0.0 c.from_residual.result c.in_err-literals.was
    c.map_err.ensures.cases c.from_residual.ensures.1 (λ n made. search rules) in
    subst (BodyAs (said self.header) self.bytes.now) (sym is)
    (looping_refuses (said self.header) self.bytes.now self.few l.defined l.rows l.at l.j-counter l.invariant
    (omega (arith, c.loop-j-test.true, c.line_count-j-end.ensures)) e.result e.ensures k.result k.ensures fault
    (subst (LinedAs self.header.largest (rule_of k.result self.header.largest) l.defined _) was c.line.ensures))

pub loop-j-preserved : goal.loop-j-preserved
loop-j-preserved c =
    let self = c.args.self.now in
    let l = c.loop-j in
    let e = c.line_end-end in
    let k = c.kind_of-kind in
    let row = c.in_ok-literals.literals in
    let defines = λ (f : Form). f.defines in
    let marks : c.if-form_of.defined ≡ marks_after k.result l.defined (get_or row 0 0) = elim c.if-form_of.branch [
      | then-form_of w ↦ w.defined-is ∙ sym (marks_set k.result l.defined _ (sym (ap defines c.form_of.ensures) ∙ w.if-form_of.true))
      | else-form_of w ↦ w.defined-is ∙ sym (marks_stay k.result l.defined _ (sym (ap defines c.form_of.ensures) ∙ w.if-form_of.false))
    ] in
    subst (λ (r : List ℕ). Looping (said self.header) self.bytes.now c.if-form_of.defined (set l.rows l.j-counter r) e.result (l.j-counter + 1))
    (sym c.narrowed.ensures)
    (looping_goes_on (said self.header) self.bytes.now self.few l.defined l.rows l.at l.j-counter l.invariant
    (omega (arith, c.loop-j-test.true, c.line_count-j-end.ensures)) e.result e.ensures k.result k.ensures row
    (subst (LinedAs self.header.largest (rule_of k.result self.header.largest) l.defined _)
    (well _ c.line.result c.map_err.result row c.in_ok-literals.was c.map_err.ensures.cases) c.line.ensures)
    c.if-form_of.defined marks)

pub returns : goal.returns
returns c =
    let self = c.args.self.now in
    let l = c.loop-j in
    looping_ends (said self.header) self.bytes.now self.few l.defined l.rows l.at l.j-counter l.invariant
    (omega (arith, c.loop-j-test.false, c.line_count-j-end.ensures)) _
