-- What `Values::put_gates` keeps from turn to turn: what is left to put, over the truths so far, gives the whole.
use Rattle.std.proofs.Common.{◌≡◌, drop}
use Rattle.circuit.specs.Stored.{meant_lent}
use Rattle.step.specs.Truths.{truths}
use Rattle.step.specs.Value.{with_gates}
use Rattle.step.proofs.truths.Values.put_gates.Given as goal

abbrev pub invariant-loop-i : goal.invariant-loop-i
invariant-loop-i l =
    let gates = (meant_lent l.circuit).gates in
    with_gates gates (truths l.initial.self.bytes) ≡ with_gates (drop l.i gates) (truths l.self.bytes)
