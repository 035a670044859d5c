-- `Rest::defined` meets its contract: line by line. Assumes nothing.
use Prim.Native.Nat.{ℕ, ◌+◌, ◌<◌}
use native.Mathlib.Omega.{arith}
use lib.ListN.{length, get_or}
use mathlib.Core.Bool.{Bool}
use mathlib.Core.List.{List, []}
use mathlib.Core.Path.{◌≡◌, sym, ap, ◌∙◌}
use Rattle.below.specs.Table.{table}
use Rattle.below.proofs.Laws.Table.{get_or_table, length_table}
use Rattle.circuit.specs.Answer.{outcome_of}
use Rattle.circuit.specs.Outcome.{refused}
use Rattle.text.specs.Numbers.{not_defined}
use Rattle.lines.specs.Inner.Headed.{said}
use Rattle.reader.specs.Inner.DefinedAs.{any_unmarked}
use Rattle.reader.specs.Inner.Rows.{late_at}
use Rattle.reader.proofs.Laws.UsedLoop.{known_start, known_more, unknown-here, all_known}
use Rattle.text.specs.Header.{Header}
use Rattle.reader.proofs.rest.Rest.defined.Goals as goal

abbrev literals : Header → List (List ℕ) → List (List ℕ)
literals h rows = table (late_at h rows) (h.latches + 1 + h.gates)

long : (h : Header) (rows : List (List ℕ)) → length (literals h rows) ≡ h.latches + 1 + h.gates
long h rows = length_table (late_at h rows) (h.latches + 1 + h.gates)

here : (h : Header) (rows : List (List ℕ)) (marks : List ℕ) (k : ℕ) (b : Bool) → k < h.latches + 1 + h.gates → b ≡ any_unmarked marks (late_at h rows k)
    → any_unmarked marks (get_or (literals h rows) k []) ≡ b
here h rows marks k b low f = ap (any_unmarked marks) (get_or_table (late_at h rows) (h.latches + 1 + h.gates) k [] low) ∙ sym f

pub loop-k-init : goal.loop-k-init
loop-k-init c = known_start c.args.body.now.defined (literals (said c.args.self.now.header) c.args.body.now.rows)

pub returns-then-uses_unknown : goal.returns-then-uses_unknown
unfolding outcome_of
returns-then-uses_unknown c =
    let h = said c.args.self.now.header in
    let b = c.args.body.now in
    let l = c.loop-k in
    let u = c.uses_unknown in
    let low : l.k < h.latches + 1 + h.gates = omega (arith, c.loop-k-test.true, c.latches.ensures, c.gates.ensures) in
    λ defined says.
    sym (unknown-here b.defined (literals h b.rows) l.k l.invariant (omega (arith, low, long h b.rows))
    (here h b.rows b.defined l.k u.result low u.ensures ∙ c.if-uses_unknown.true) defined (2 + h.inputs) says
    ∙ ap (λ (i : ℕ). refused not_defined (2 + i + l.k)) (sym c.inputs.ensures))

pub loop-k-preserved : goal.loop-k-preserved
loop-k-preserved c =
    let h = said c.args.self.now.header in
    let b = c.args.body.now in
    let l = c.loop-k in
    let u = c.uses_unknown in
    let low : l.k < h.latches + 1 + h.gates = omega (arith, c.loop-k-test.true, c.latches.ensures, c.gates.ensures) in
    known_more b.defined (literals h b.rows) l.k l.invariant (omega (arith, low, long h b.rows))
    (here h b.rows b.defined l.k u.result low u.ensures ∙ c.if-uses_unknown.false)

pub returns : goal.returns
unfolding outcome_of
returns c =
    let h = said c.args.self.now.header in
    let b = c.args.body.now in
    λ defined says. sym (all_known b.defined (literals h b.rows) c.loop-k.k c.loop-k.invariant
    (omega (arith, c.loop-k-test.false, c.latches.ensures, c.gates.ensures, long h b.rows)) defined (2 + h.inputs) says)
