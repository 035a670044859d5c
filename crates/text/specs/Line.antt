-- Lines (01, "The file"): every line ends in byte 10; single spaces stand between numbers; no other blank is allowed. Assumes nothing.
use Rattle.std.specs.Prelude.{ℕ, zero, suc, true, false, cond, List, [], ◌∷◌, ◌++◌, eqb, get_or, drop, replicate}
use Rattle.std.proofs.Math.Option.{Option, none, some}
use Rattle.text.specs.Number.{is, bad, number}

-- a byte before the first line of lines
unfoldable pub before : ℕ → List (List ℕ) → List (List ℕ)
before b [] = (b ∷ []) ∷ []
before b (l ∷ ls) = (b ∷ l) ∷ ls

-- a file's lines, each with its byte 10; bytes behind the last byte 10 stand last, without one, and are no line
unfoldable pub lines : List ℕ → List (List ℕ)
lines [] = []
lines (b ∷ s) = let rest = lines s in cond (eqb b 10) ((b ∷ []) ∷ rest) (before b rest)

-- the first line of a text
unfoldable pub first_line : List ℕ → List ℕ
first_line t = get_or (lines t) 0 []

-- what is read so far, before what the rest holds
unfoldable pub prepend : ℕ → Option (List ℕ) → Option (List ℕ)
prepend v none = none
prepend v (some vs) = some (v ∷ vs)

-- the numbers of a line, each followed by its separator, and nothing behind the last
unfoldable pub fields : List ℕ → List ℕ → Option (List ℕ)
fields [] [] = some []
fields [] (b ∷ t) = none
fields (p ∷ ps) t =
    elim (number t) [
      | bad ↦ none
      | is v rest ↦ elim (eqb (get_or rest 0 0) p) [ true ↦ prepend v (fields ps (drop 1 rest)) | false ↦ none ]
    ]

-- the separators of a line of suc n numbers: n spaces, then byte 10
unfoldable pub separators : ℕ → List ℕ
separators zero = []
separators (suc n) = replicate n 32 ++ (10 ∷ [])

-- the numbers of a line that holds n of them and nothing else
unfoldable pub numbers_of : ℕ → List ℕ → Option (List ℕ)
numbers_of n line = fields (separators n) line
