-- Symbol lines and the comment (01, "The file", rules 5 and 6), and which inputs are controllable. Assumes nothing.
use Rattle.std.specs.Prelude.{ℕ, suc, Bool, true, false, cond, not, ◌&&◌, eqb, leb, ltb, length, get_or, drop}
use Prim.Native.Char.{code}
use mathlib.Core.List.{List, [], ◌∷◌, ◌++◌, flat_map}
use Rattle.std.proofs.Math.Option.{Option, none, some}
use Rattle.below.specs.Among.{among}
use Rattle.bits.specs.Bytes.{ascii, same_bytes, starts_with}
use Rattle.circuit.specs.Outcome.{Outcome, taken, refused, ◌>>=◌}
use Rattle.text.specs.Header.{Header}
use Rattle.text.specs.Number.{is, bad, number, run}
use Rattle.text.specs.Numbers.{bad_symbol}

pub record Symbol : Type 0 where
  pub letter : ℕ
  pub position : ℕ
  pub name : List ℕ

-- the letters of inputs, latches and outputs
abbrev pub input_letter : ℕ
input_letter = code "i"

abbrev pub latch_letter : ℕ
latch_letter = code "l"

abbrev pub output_letter : ℕ
output_letter = code "o"

-- how many positions a letter has; no other letter has any
unfoldable pub positions : Header → ℕ → ℕ
positions h letter =
    cond (eqb letter input_letter) h.inputs
    (cond (eqb letter latch_letter) h.latches (cond (eqb letter output_letter) h.outputs 0))

unfoldable pub is_name_byte : ℕ → Bool
is_name_byte b = leb 32 b && leb b 126

unfoldable pub is_name : List ℕ → Bool
is_name name = leb 1 (length name) && leb (length name) 200

unfoldable pub names : ℕ → ℕ → Symbol → Bool
names letter position s = eqb s.letter letter && eqb s.position position

-- the symbol of letter and position with the name that a text begins with, if that text is a space, a name and byte 10,
-- the position lies below its count and none of the symbols seen has it
unfoldable pub symbol_at : Header → List Symbol → ℕ → ℕ → List ℕ → Option Symbol
symbol_at h seen letter position text =
    let name = run is_name_byte (drop 1 text) in
    cond
    (eqb (get_or text 0 0) 32
    && same_bytes (drop (suc (length name)) text) (10 ∷ [])
    && is_name name
    && ltb position (positions h letter)
    && not (among (names letter position) seen))
    (some (record { letter = letter; position = position; name = name }))
    none

unfoldable pub symbol_of : Header → List Symbol → List ℕ → Option Symbol
symbol_of h seen [] = none
symbol_of h seen (letter ∷ t) = elim (number t) [ bad ↦ none | is position text ↦ symbol_at h seen letter position text ]

-- a line holding only `c`
unfoldable pub is_comment : List ℕ → Bool
is_comment line = same_bytes line (ascii "c\n")

-- what stands behind the gates: symbols in file order, and the comment's bytes if a line `c` starts one
pub record Symbols : Type 0 where
  pub symbols : List Symbol
  pub comment : Option (List ℕ)

unfoldable pub or_bad_symbol : ℕ → Option Symbol → Outcome Symbol
or_bad_symbol place none = refused bad_symbol place
or_bad_symbol place (some s) = taken s

unfoldable pub symbol_lines : Header → ℕ → List Symbol → List (List ℕ) → Outcome Symbols
symbol_lines h place seen [] = taken (record { symbols = seen; comment = none })
symbol_lines h place seen (line ∷ rest) =
    elim (is_comment line) [
      | true ↦ taken (record { symbols = seen; comment = some (flat_map (λ l. l) rest) })
      | false ↦ or_bad_symbol place (symbol_of h seen line) >>= λ s. symbol_lines h (suc place) (seen ++ (s ∷ [])) rest
    ]

abbrev pub prefix : List ℕ
prefix = ascii "controllable_"

unfoldable pub is_controllable_name : List ℕ → Bool
is_controllable_name name = starts_with prefix name

-- an input is controllable exactly if its name starts with the prefix
unfoldable pub is_controllable : List Symbol → ℕ → Bool
is_controllable symbols position = among (λ s. names input_letter position s && is_controllable_name s.name) symbols
