-- The first bad symbol line (01, "The numbers", 8: bad symbol line, position or repeated symbol; symbol lines in file order). Assumes nothing.
use Rattle.std.specs.Prelude.{ℕ, ◌+◌, List, ◌∷◌, ◌++◌, map, ◌≡◌, length}
use Rattle.bits.specs.Bytes.{ascii}
use Rattle.text.specs.Header.{Header}
use Rattle.text.specs.Numbers.{bad_symbol}
use Rattle.text.specs.Symbol.{Symbol}
use Rattle.text.specs.SymbolRight.{SymbolRight, SymbolsRight}
use Rattle.text.specs.Written.{symbol_line}

-- lines behind the gates, the first of them at a place: first the lines of symbols, then one that is neither a symbol's nor `c`
pub record NoSymbol (h : Header) (start : ℕ) (seen : List Symbol) (ls : List (List ℕ)) (number place : ℕ) : Type 0 where
  pub before : List Symbol
  pub line : List ℕ
  pub after : List (List ℕ)
  pub lines : ls ≡ map symbol_line before ++ (line ∷ after)
  pub right : SymbolsRight h seen before
  pub other : line ≡ ascii "c\n" → ⊥
  pub fault : (s : Symbol) → SymbolRight h (seen ++ before) s → line ≡ symbol_line s → ⊥
  pub eight : number ≡ bad_symbol
  pub at : place ≡ start + length before
