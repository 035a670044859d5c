-- `writer::certify` meets its contract: reading, then the certificate of the circuit that was read. Assumes nothing.
use Rattle.std.proofs.lemmas.Result.{err_from_is_err_and}
use Rattle.writer.proofs.Laws.Front.{front_certified, front_refused}
use Rattle.writer.proofs.certify.Goals as goal

pub returns-in_err-c : goal.returns-in_err-c
returns-in_err-c c =
    let p = err_from_is_err_and c.from_residual.result c.from_residual.ensures.1 in
    rw (p.1, p.2) (front_refused _ _ c.read.result c.read.ensures _ _ c.in_err-c.was)

pub returns : goal.returns
returns c = front_certified _ _ c.read.result c.read.ensures _ _ _ _ c.in_ok-c.was c.certify_circuit.ensures
