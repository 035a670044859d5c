-- A symbol that may stand behind those seen (01, "The file", rule 5), as a statement: a letter with a position below its count, a name of 1 to
-- 200 bytes from 32 to 126, and no position is named twice. Assumes nothing.
use Rattle.std.specs.Prelude.{◌^◌, ◌<◌, ◌≤◌, List, [], ◌∷◌, ◌++◌, ◌≡◌, length}
use Rattle.text.specs.Header.{Header}
use Rattle.text.specs.InList.{All}
use Rattle.text.specs.Symbol.{Symbol, input_letter, latch_letter, output_letter}
use Rattle.text.specs.WellFormed.{Apart}

pub data Positioned (h : Header) (s : Symbol) : Type 0 where
  of_inputs : s.letter ≡ input_letter → s.position < h.inputs → Positioned h s
  of_latches : s.letter ≡ latch_letter → s.position < h.latches → Positioned h s
  of_outputs : s.letter ≡ output_letter → s.position < h.outputs → Positioned h s

pub record SymbolRight (h : Header) (seen : List Symbol) (s : Symbol) : Type 0 where
  pub positioned : Positioned h s
  pub digits : s.position < 10 ^ 7
  pub some : 1 ≤ length s.name
  pub most : length s.name ≤ 200
  pub bytes : All (λ b. (32 ≤ b) × (b ≤ 126)) s.name
  pub apart : All (λ t. Apart t s) seen

-- each behind those before it
abbrev pub SymbolsRight : Header → (seen symbols : List Symbol) → Type 0
SymbolsRight h seen [] = Unit {0}
SymbolsRight h seen (s ∷ ss) = SymbolRight h seen s × SymbolsRight h (seen ++ (s ∷ [])) ss
