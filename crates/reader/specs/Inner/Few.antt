-- The counts of a header keep the limits (01, the table of limits). Assumes nothing.
use Rattle.std.specs.Prelude.{◌+◌, ◌≤◌, ◌≡◌}
use Rattle.circuit.specs.Limits.{base}
use Rattle.text.specs.Header.{Header}

pub record Few (h : Header) : Type 0 where
  pub largest : h.largest ≤ base.variable
  pub inputs : h.inputs ≤ base.inputs
  pub latches : h.latches ≤ base.latches
  pub outputs : h.outputs ≡ base.outputs
  pub gates : h.inputs + h.latches + h.gates ≤ h.largest
