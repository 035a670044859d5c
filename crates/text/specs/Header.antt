-- The header (01, "The file", rule 1): `aag M I L O A`, with M at least I + L + A, within the limits. Assumes nothing.
use Rattle.std.specs.Prelude.{ℕ, ◌+◌, Bool, cond, ◌&&◌, List, eqb, leb, get_or, drop}
use Rattle.std.proofs.Math.Option.{Option, none}
use Rattle.bits.specs.Bytes.{ascii, starts_with}
use Rattle.circuit.specs.Limits.{Limits}
use Rattle.text.specs.Line.{numbers_of}

pub record Header : Type 0 where
  pub largest : ℕ
  pub inputs : ℕ
  pub latches : ℕ
  pub outputs : ℕ
  pub gates : ℕ

abbrev pub word : List ℕ
word = ascii "aag "

-- the five numbers behind the word
unfoldable pub header_numbers : List ℕ → Option (List ℕ)
header_numbers line = cond (starts_with word line) (numbers_of 5 (drop 4 line)) none

unfoldable pub header_of : List ℕ → Header
header_of fs =
    record {
      largest = get_or fs 0 0;
      inputs = get_or fs 1 0;
      latches = get_or fs 2 0;
      outputs = get_or fs 3 0;
      gates = get_or fs 4 0;
    }

unfoldable pub within_limits : Limits → Header → Bool
within_limits limits h =
    leb h.largest limits.variable
    && leb h.inputs limits.inputs
    && leb h.latches limits.latches
    && eqb h.outputs limits.outputs
    && leb (h.inputs + h.latches + h.gates) h.largest
