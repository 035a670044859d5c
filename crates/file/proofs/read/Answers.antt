-- `file::read` meets its contract: the text form is the only one. Assumes nothing.
use Rattle.file.specs.CircuitIn.{circuit_in}
use Rattle.file.proofs.read.Goals as goal

pub returns : goal.returns
unfolding circuit_in
returns c = c.read.ensures
