-- A file as its text says it (01, "The file", rules 1 to 6), and the circuit that it means (02, T-01: evaluation follows dependency). Assumes
-- nothing.
use Rattle.std.specs.Prelude.{ℕ, List, map, length, get_or}
use Rattle.std.proofs.Math.Option.{Option}
use Rattle.below.specs.Table.{table}
use Rattle.circuit.specs.Circuit.{Circuit, Latch, Gate, gate_at}
use Rattle.text.specs.GateUses.{evaluation, evaluated}
use Rattle.text.specs.Symbol.{Symbol, is_controllable}

pub record TextFile : Type 0 where
  pub largest : ℕ
  pub inputs : List ℕ
  pub latches : List Latch
  pub output : ℕ
  pub gates : List Gate
  pub symbols : List Symbol
  pub comment : Option (List ℕ)

-- the circuit that a file means
unfoldable pub circuit_of : TextFile → Circuit
circuit_of f =
    record {
      largest = f.largest;
      inputs = table (λ i. record { own = get_or f.inputs i 0; controllable = is_controllable f.symbols i }) (length f.inputs);
      latches = f.latches;
      output = f.output;
      gates = map (gate_at f.gates) (evaluation f.gates);
      lines = table (evaluated f.gates) (length f.gates);
    }
