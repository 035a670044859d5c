-- What the code's answer says of one line behind the gates (01, "The file", rules 5 and 6). Assumes nothing.
use Rattle.std.specs.Prelude.{ℕ, ◌<◌, true, false, ◌&&◌, List, ◌≡◌, Option as Found, Some, None, Result, Ok, Err}
use Rattle.std.proofs.Math.Option.{Option, none, some}
use Rattle.circuit.specs.declared.numbers.Fault.{Fault}
use Rattle.circuit.specs.declared.numbers.Fault.TheVariants.{BadSymbol}
use Rattle.lines.specs.declared.symbol.Symbol.{Symbol as Value}
use Rattle.text.specs.Symbol.{Symbol, input_letter, names, positions, symbol_at, symbol_of, is_comment, is_controllable_name}
use Rattle.lines.specs.Inner.Named.{Named, slot_of}
use Rattle.text.specs.Header.{Header}

-- a symbol: where its mark stands, its position, and whether it makes an input controllable
pub record IsSymbol (h : Header) (found : Option Symbol) (v : Value) : Type 0 where
  pub symbol : Symbol
  pub is : found ≡ some symbol
  pub marked : v.slot ≡ slot_of h symbol.letter v.position
  pub at : symbol.position ≡ v.position
  pub below : v.position < positions h symbol.letter
  pub flagged : v.controls ≡ (names input_letter v.position symbol && is_controllable_name symbol.name)

-- a letter and a position, with the text behind them
abbrev pub SymbolAt : (h : Header) (marks : List ℕ) (letter position : ℕ) (text : List ℕ) → Found Value → Type 0
SymbolAt h marks letter position text (Some v) =
    (seen : List Symbol) → Named h marks seen → IsSymbol h (symbol_at h seen letter position text) v
SymbolAt h marks letter position text None =
    (seen : List Symbol) → Named h marks seen → symbol_at h seen letter position text ≡ none

-- a whole line
abbrev pub SymbolAs : (h : Header) (marks line : List ℕ) → Result (Found Value) Fault → Type 0
SymbolAs h marks line (Ok None) = is_comment line ≡ true
SymbolAs h marks line (Ok (Some v)) =
    (is_comment line ≡ false)
    × ((seen : List Symbol) → Named h marks seen → IsSymbol h (symbol_of h seen line) v)
SymbolAs h marks line (Err fault) =
    (is_comment line ≡ false) × (fault ≡ BadSymbol)
    × ((seen : List Symbol) → Named h marks seen → symbol_of h seen line ≡ none)
