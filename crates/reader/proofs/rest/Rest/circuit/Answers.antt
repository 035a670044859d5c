-- `Rest::circuit` meets its contract: stage by stage, in the order of the numbers. Assumes nothing.
use Rattle.std.proofs.lemmas.Result.{err_from_is_err_and}
use Rattle.lines.specs.Inner.Headed.{said}
use Rattle.reader.proofs.Laws.Behind.{body_refused, late_refused, circle_refused, symbol_refused, counted_read, exit-is}
use Rattle.reader.proofs.rest.Rest.circuit.Goals as goal

pub returns-in_err-body : goal.returns-in_err-body
returns-in_err-body c =
    let self = c.args.self.now in
    body_refused (said self.header) self.bytes.now c.in_err-body.field-0.0 c.from_residual.result c.in_err-body.ensures
    (exit-is _ _ (err_from_is_err_and c.from_residual.result c.from_residual.ensures.1))

pub returns-in_err-defined : goal.returns-in_err-defined
returns-in_err-defined c =
    let self = c.args.self.now in
    late_refused (said self.header) self.bytes.now c.in_ok-body.body c.in_ok-body.ensures c.in_err-defined.field-0.0 c.from_residual-in_err-defined.result
    c.in_err-defined.ensures
    (exit-is _ _ (err_from_is_err_and c.from_residual-in_err-defined.result c.from_residual-in_err-defined.ensures.1))

pub returns-in_err-order : goal.returns-in_err-order
returns-in_err-order c =
    let self = c.args.self.now in
    circle_refused (said self.header) self.bytes.now c.in_ok-body.body c.in_ok-body.ensures c.in_ok-defined.field-0 c.in_ok-defined.ensures
    c.in_err-order.field-0.0 c.from_residual-in_err-order.result c.in_err-order.ensures
    (exit-is _ _ (err_from_is_err_and c.from_residual-in_err-order.result c.from_residual-in_err-order.ensures.1))

pub returns-in_err-flags : goal.returns-in_err-flags
returns-in_err-flags c =
    let self = c.args.self.now in
    symbol_refused (said self.header) self.bytes.now c.in_ok-body.body c.in_ok-body.ensures c.in_ok-defined.field-0 c.in_ok-defined.ensures self.few
    c.in_ok-order.order c.in_ok-order.ensures c.in_err-flags.field-0.0 c.from_residual-in_err-flags.result c.in_err-flags.ensures
    (exit-is _ _ (err_from_is_err_and c.from_residual-in_err-flags.result c.from_residual-in_err-flags.ensures.1))

pub returns : goal.returns
returns c =
    let self = c.args.self.now in
    counted_read (said self.header) self.bytes.now c.in_ok-body.body c.in_ok-body.ensures c.in_ok-defined.field-0 c.in_ok-defined.ensures self.few
    c.in_ok-order.order c.in_ok-order.ensures c.in_ok-flags.flags c.in_ok-flags.ensures c.circuit_of.result c.circuit_of.ensures
    c.counted.result c.counted.ensures
