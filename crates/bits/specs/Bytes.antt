-- Bytes as a text says them, and lists of bytes compared: the same, and one the start of the other (01, "The file": a name starts with 13
-- bytes; "The numbers", 12). Assumes nothing.
use Rattle.std.specs.Prelude.{ℕ, Bool, true, false, ◌&&◌, List, [], ◌∷◌, eqb}
use Prim.Native.Char.{code}
use Prim.Native.String.{◌∷◌ as cons, [] as nil}
use Prim.Native.String.{String}

-- the code of each character: of a text in ASCII, its bytes
abbrev pub ascii : String → List ℕ
ascii nil = []
ascii (cons c s) = code c ∷ ascii s

unfoldable pub same_bytes : List ℕ → List ℕ → Bool
same_bytes [] [] = true
same_bytes [] (t ∷ ts) = false
same_bytes (s ∷ ss) [] = false
same_bytes (s ∷ ss) (t ∷ ts) = eqb s t && same_bytes ss ts

-- the first list is where the second begins
unfoldable pub starts_with : List ℕ → List ℕ → Bool
starts_with [] ts = true
starts_with (s ∷ ss) [] = false
starts_with (s ∷ ss) (t ∷ ts) = eqb s t && starts_with ss ts
