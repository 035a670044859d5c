-- What `Values::put_inputs` keeps from turn to turn: what is left to put, over the truths so far, gives the whole.
use Rattle.std.proofs.Common.{◌≡◌, drop}
use Rattle.circuit.specs.Stored.{meant_lent}
use Rattle.step.specs.Truths.{truths}
use Rattle.step.specs.Value.{with_inputs}
use Rattle.step.proofs.truths.Values.put_inputs.Given as goal

abbrev pub invariant-loop-i : goal.invariant-loop-i
invariant-loop-i l =
    let inputs = (meant_lent l.circuit).inputs in
    with_inputs inputs l.fn.reading l.fn.control (truths l.initial.self.bytes) ≡ with_inputs (drop l.i inputs) l.reading l.control (truths l.self.bytes)
