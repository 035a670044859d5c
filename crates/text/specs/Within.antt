-- What a header must keep (01, "The numbers", 3): the limits ("What the library takes and gives") and M at least I + L + A. Assumes nothing.
use Rattle.std.specs.Prelude.{◌+◌, ◌≤◌, ◌≡◌}
use Rattle.circuit.specs.Limits.{Limits}
use Rattle.text.specs.Header.{Header}

pub record Within (limits : Limits) (h : Header) : Type 0 where
  pub largest : h.largest ≤ limits.variable
  pub inputs : h.inputs ≤ limits.inputs
  pub latches : h.latches ≤ limits.latches
  pub outputs : h.outputs ≡ limits.outputs
  pub room : h.inputs + h.latches + h.gates ≤ h.largest
