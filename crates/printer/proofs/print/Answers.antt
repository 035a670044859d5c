-- `printer::print` meets its contract: reading, then the print of the circuit that was read. Assumes nothing.
use Rattle.std.proofs.lemmas.Result.{err_from_is_err_and}
use Rattle.printer.proofs.Laws.Front.{front_printed, front_refused}
use Rattle.printer.proofs.print.Goals as goal

pub returns-in_err-circuit : goal.returns-in_err-circuit
returns-in_err-circuit c =
    let p = err_from_is_err_and c.from_residual.result c.from_residual.ensures.1 in
    rw (p.1, p.2) (front_refused c.args.file.now c.read.result c.read.ensures c.args.out.now c.in_err-circuit.field-0.0 c.in_err-circuit.was)

pub returns : goal.returns
returns c =
    front_printed c.args.file.now c.read.result c.read.ensures c.in_ok-circuit.circuit _ c.args.out.now _ _ c.in_ok-circuit.was c.lent.ensures c.fit.ensures
