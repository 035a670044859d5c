-- The first fault of the lines before the symbols (01, "The numbers": lines in file order): all lines above it are right. Lines count from 1; a
-- missing line has the number it would have had. Assumes nothing.
use Rattle.std.specs.Prelude.{ℕ, suc, List, [], ◌∷◌, ◌++◌, ◌⊎◌, ◌≡◌, get_or, drop}
use Rattle.text.specs.Kind.{Kind, defined_by}
use Rattle.text.specs.LineFault.{LineFault, LineRight}

-- each line is right, and these are their numbers; the variables given are defined above
abbrev pub AllRight : (M : ℕ) → List Kind → (defined : List ℕ) → (lines rows : List (List ℕ)) → Type 0
AllRight M [] defined ls [] = Unit {0}
AllRight M [] defined ls (fs ∷ rows) = ⊥
AllRight M (k ∷ ks) defined ls [] = ⊥
AllRight M (k ∷ ks) defined ls (fs ∷ rows) =
    LineRight M k defined (get_or ls 0 []) fs × AllRight M ks (defined ++ defined_by k fs) (drop 1 ls) rows

-- the first line, at this place, is at fault; or it is right and the first fault stands below
abbrev pub FirstFault : (M : ℕ) → List Kind → (defined : List ℕ) → (lines : List (List ℕ)) → (at number place : ℕ) → Type 0
FirstFault M [] defined ls at number place = ⊥
FirstFault M (k ∷ ks) defined ls at number place =
    ((place ≡ at) × LineFault M k defined (get_or ls 0 []) number)
    ⊎ ((fs : List ℕ) × LineRight M k defined (get_or ls 0 []) fs
    × FirstFault M ks (defined ++ defined_by k fs) (drop 1 ls) (suc at) number place)
