-- What the code's answer says of all that stands behind the gates (01, "The file", rules 5 and 6). Assumes nothing.
use Rattle.std.specs.Prelude.{ℕ, ◌+◌, ◌≤◌, ◌<◌, List, [], ◌≡◌, length, get_or, drop, Result, Ok, Err}
use Rattle.bits.specs.Bit.{one_if}
use Rattle.circuit.specs.Fault.{number_of}
use Rattle.circuit.specs.Limits.{base}
use Rattle.circuit.specs.Outcome.{taken, refused}
use Rattle.circuit.specs.declared.numbers.Refusal.{Refusal}
use Rattle.reader.specs.Inner.AllLines.{line_count}
use Rattle.text.specs.Header.{Header}
use Rattle.text.specs.Line.{lines}
use Rattle.text.specs.Symbol.{Symbol, Symbols, symbol_lines, is_controllable}

-- a flag for each input: 1 exactly if some symbols make it controllable; 0 behind the inputs
pub record Flags (inputs : ℕ) (flags : List ℕ) (seen : List Symbol) : Type 0 where
  pub says : (position : ℕ) → position < inputs → get_or flags position 0 ≡ one_if (is_controllable seen position)
  pub others : (position : ℕ) → inputs ≤ position → get_or flags position 0 ≡ 0
  pub long : length flags ≡ base.inputs

-- the symbols were read, and the flags say which inputs they make controllable
pub record SymbolsRead (h : Header) (bytes : List ℕ) (at : ℕ) (flags : List ℕ) : Type 0 where
  pub behind : Symbols
  pub whole : symbol_lines h (2 + line_count h) [] (lines (drop at bytes)) ≡ taken behind
  pub flagged : Flags h.inputs flags behind.symbols

abbrev pub SymbolsAs : Header → (bytes : List ℕ) (at : ℕ) → Result (List ℕ) Refusal → Type 0
SymbolsAs h bytes at (Ok flags) = SymbolsRead h bytes at flags
SymbolsAs h bytes at (Err r) = symbol_lines h (2 + line_count h) [] (lines (drop at bytes)) ≡ refused (number_of r.fault) r.place
