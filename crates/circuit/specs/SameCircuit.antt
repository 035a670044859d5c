-- The same circuit (01, "The numbers", last paragraph): the same header, lines and controllable inputs. Assumes nothing.
use Rattle.std.specs.Prelude.{◌≡◌, map, length}
use Rattle.circuit.specs.Circuit.{Circuit, Input, gate_lines}

-- M, I, L and A of the header; O is 1
pub record SameHeader (c d : Circuit) : Type 0 where
  pub largest : c.largest ≡ d.largest
  pub inputs : length c.inputs ≡ length d.inputs
  pub latches : length c.latches ≡ length d.latches
  pub gates : length c.gates ≡ length d.gates

pub record SameLines (c d : Circuit) : Type 0 where
  pub inputs : map (λ (i : Input). i.own) c.inputs ≡ map (λ (i : Input). i.own) d.inputs
  pub latches : c.latches ≡ d.latches
  pub output : c.output ≡ d.output
  pub gates : gate_lines c ≡ gate_lines d

pub record SameCircuit (c d : Circuit) : Type 0 where
  pub header : SameHeader c d
  pub lines : SameLines c d
  pub controllable : map (λ (i : Input). i.controllable) c.inputs ≡ map (λ (i : Input). i.controllable) d.inputs
