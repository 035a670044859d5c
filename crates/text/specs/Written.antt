-- The text that the format's rules write for a file (01, "The file", rules 1 to 6): no parsing, only writing down. Assumes nothing.
use Rattle.std.specs.Prelude.{ℕ, length}
use mathlib.Core.List.{List, [], ◌∷◌, ◌++◌, flat_map}
use Rattle.std.proofs.Math.Option.{Option, none, some}
use Rattle.bits.specs.Bytes.{ascii}
use Rattle.circuit.specs.Circuit.{Latch, Gate}
use Rattle.text.specs.Header.{word}
use Rattle.text.specs.Number.{decimal}
use Rattle.text.specs.Symbol.{Symbol}
use Rattle.text.specs.TextFile.{TextFile}

-- numbers, single spaces between them, and byte 10
unfoldable pub number_line : List ℕ → List ℕ
number_line [] = 10 ∷ []
number_line (n ∷ []) = decimal n ++ (10 ∷ [])
number_line (n ∷ m ∷ ns) = decimal n ++ (32 ∷ number_line (m ∷ ns))

unfoldable pub symbol_line : Symbol → List ℕ
symbol_line s = s.letter ∷ decimal s.position ++ (32 ∷ s.name ++ (10 ∷ []))

unfoldable pub comment_text : Option (List ℕ) → List ℕ
comment_text none = []
comment_text (some bytes) = ascii "c\n" ++ bytes

unfoldable pub text_of : TextFile → List ℕ
text_of f =
    word
    ++ number_line (f.largest ∷ length f.inputs ∷ length f.latches ∷ 1 ∷ length f.gates ∷ [])
    ++ flat_map (λ own. number_line (own ∷ [])) f.inputs
    ++ flat_map (λ (l : Latch). number_line (l.own ∷ l.next ∷ [])) f.latches
    ++ number_line (f.output ∷ [])
    ++ flat_map (λ (g : Gate). number_line (g.own ∷ g.left ∷ g.right ∷ [])) f.gates
    ++ flat_map symbol_line f.symbols
    ++ comment_text f.comment
