-- What `Values::put_latches` keeps from turn to turn: what is left to put, over the truths so far, gives the whole.
use Rattle.std.proofs.Common.{◌≡◌, drop}
use Rattle.circuit.specs.Stored.{meant_lent}
use Rattle.step.specs.Truths.{truths}
use Rattle.step.specs.Value.{with_latches}
use Rattle.step.proofs.truths.Values.put_latches.Given as goal

abbrev pub invariant-loop-latch : goal.invariant-loop-latch
invariant-loop-latch l =
    let latches = (meant_lent l.circuit).latches in
    with_latches latches l.fn.state (truths l.initial.self.bytes) ≡ with_latches (drop l.latch-index latches) l.state (truths l.self.bytes)
