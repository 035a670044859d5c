-- `Rest::order` meets its contract: the gates' operands, then the crate `order`. Assumes nothing.
use borrow.Author.Rules.{rules}
use Prim.Native.Nat.{ℕ, ◌+◌, ◌*◌, ◌<◌}
use native.Mathlib.Omega.{arith}
use lib.ListN.{length, take}
use mathlib.Core.Path.{◌≡◌, sym, ap, ◌∙◌, subst}
use Rattle.below.proofs.Laws.Table.{length_table}
use Rattle.circuit.specs.Limits.{base}
use Rattle.circuit.specs.Outcome.{refused}
use Rattle.lines.specs.Inner.Headed.{said}
use Rattle.reader.proofs.Laws.GatesPlaced.{in_order, in_circle}
use Rattle.reader.specs.Inner.Rows.{row_gates}
use Rattle.below.specs.Table.{table}
use Rattle.std.specs.Prelude.{Err}
use Rattle.text.specs.Numbers.{gate_circle}
use mathlib.Core.List.{List}
use Rattle.text.specs.GateUses.{uses_of}
use Rattle.text.specs.Stages.{circled}
use Rattle.circuit.specs.declared.numbers.Fault.TheVariants.{GateCircle}
use Rattle.circuit.specs.declared.numbers.Refusal.{Refusal}
use Rattle.reader.specs.Inner.OrderedAs.{OrderedAs}
use Rattle.reader.proofs.Laws.Placed.{well, badly}
use Rattle.reader.proofs.rest.Rest.order.Goals as goal
use Rattle.reader.proofs.rest.Rest.order.Goals.{After-order_of}

long : (l : List ℕ) → l ≡ table (λ i. 0) base.variable → length l ≡ base.variable
long l e = ap length e ∙ length_table {A = ℕ} (λ i. 0) base.variable

used : (c : After-order_of) → take (2 * c.gates.result) c.uses-uses.result ≡ uses_of (row_gates (said c.args.self.now.header) c.args.body.now.rows)
used c = ap (λ (n : ℕ). take (2 * n) c.uses-uses.result) c.gates.ensures ∙ c.uses-uses.ensures

circle : (c : After-order_of) (gate : ℕ) → c.order_of.result ≡ Err gate
    → (gate < c.args.self.now.header.gates)
    × (circled (3 + c.args.self.now.header.inputs + c.args.self.now.header.latches) (row_gates (said c.args.self.now.header) c.args.body.now.rows)
    ≡ refused gate_circle (3 + c.args.self.now.header.inputs + c.args.self.now.header.latches + gate))
circle c gate e =
    let self = c.args.self.now in
    in_circle (said self.header) c.args.body.now.rows self.few (take (2 * c.gates.result) c.uses-uses.result) c.filled-marks.result c.filled-order.result
    (used c) (long c.filled-marks.result c.filled-marks.ensures) (long c.filled-order.result c.filled-order.ensures) gate
    (sym e ∙ c.order_of.ensures.answer)

pub map_err-requires : goal.map_err-requires
map_err-requires c = λ gate was.
    let few = c.args.self.now.few in
    let (low, told) = circle (goal.at.map_err-requires c).After-order_of gate was in (
      λ k l a b f. omega (arith, low, c.first_gate-first.ensures, few.gates, few.largest),
      λ k l a b f. omega (arith, low, c.first_gate-first.ensures, few.gates, few.largest),
    )

pub returns-in_err-map_err : goal.returns-in_err-map_err
returns-in_err-map_err c =
    let self = c.args.self.now in
    let h = self.header in
    let placed : ℕ → Refusal = λ gate. record { fault = GateCircle; place = 2 + c.first_gate-first.result + gate } in
    let (gate, was, is) = badly _ placed c.order_of.result c.map_err.result c.in_err-map_err.field-0.0 c.from_residual.result c.in_err-map_err.was
    c.map_err.ensures.cases c.from_residual.ensures.1 (λ n made. search rules) in
    let (low, told) = circle (goal.at.returns-in_err-map_err c).After-order_of gate was in
    let place : 3 + h.inputs + h.latches + gate ≡ 2 + c.first_gate-first.result + gate = omega (arith, c.first_gate-first.ensures) in
    subst (OrderedAs (said h) c.args.body.now.rows) (sym is) (told ∙ ap (refused gate_circle) place)

pub returns : goal.returns
returns c =
    let self = c.args.self.now in
    in_order (said self.header) c.args.body.now.rows self.few (take (2 * c.gates.result) c.uses-uses.result) c.filled-marks.result c.filled-order.result
    (used (goal.at.returns c).After-order_of) (long c.filled-marks.result c.filled-marks.ensures) (long c.filled-order.result c.filled-order.ensures)
    c.in_ok-map_err.field-0 c.order_of.new.order
    (sym (well _ c.order_of.result c.map_err.result c.in_ok-map_err.field-0 c.in_ok-map_err.was c.map_err.ensures.cases) ∙ c.order_of.ensures.answer)
    c.order_of.ensures.places
