-- The limits (01, "What the library takes and gives"): each number stands here, once, and nowhere else in specs. The code has them as
-- associated constants of Circuit, and the functions of src/limits.rt tie the two together. Assumes nothing.
use Rattle.std.specs.Prelude.{ℕ}

-- the limits of a kind of file; the rules of a text take them as an argument
pub record Limits : Type 0 where
  pub file : ℕ
  pub variable : ℕ
  pub latches : ℕ
  pub inputs : ℕ
  pub uncontrollable : ℕ
  pub controllable : ℕ
  pub outputs : ℕ

-- the limits of the circuit kind itself
abbrev pub base : Limits
base =
    record {
      file = 16384;
      variable = 1000;
      latches = 10;
      inputs = 13;
      uncontrollable = 5;
      controllable = 8;
      outputs = 1;
    }
