-- `Circuit::lent` meets its contract.
use Rattle.circuit.specs.Stored.{meant, meant_lent}
use Rattle.circuit.proofs.Circuit.lent.Goals as goal

pub returns : goal.returns
unfolding meant meant_lent
returns c = cc
