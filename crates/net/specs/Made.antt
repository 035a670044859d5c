-- A net (specs/NetOf.antt) as the code holds it. Assumes nothing.
use Rattle.std.specs.Prelude.{ℕ, List, ◌≡◌, length}
use Rattle.circuit.specs.Stored.{padded}
use Rattle.net.specs.declared.Net.{Net}

-- how many numbers the net of a circuit has at most: four, 10 next-state literals and 2 × 1,000 operands
abbrev pub most : ℕ
most = 2014

-- the net's numbers, zeros behind them, and how many they are
pub record MadeAs (net : List ℕ) (made : Net) : Type 0 where
  pub numbers : made.numbers ≡ padded most net
  pub length : made.length ≡ length net
