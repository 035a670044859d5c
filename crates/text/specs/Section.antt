-- The lines before the symbols (01, "The file", rule 2; "The numbers": lines in file order, each 4, 5, 6; 02, T-01: then 7 for what latches, the
-- output and gates use, in file order). A missing line counts as an empty one. Assumes nothing.
use Rattle.std.specs.Prelude.{ℕ, zero, suc, cond, List, [], ◌∷◌, ◌++◌, get_or, drop}
use Rattle.std.proofs.Math.Option.{Option, none, some}
use Rattle.circuit.specs.Literal.{variable}
use Rattle.circuit.specs.Outcome.{Outcome, taken, refused, ◌>>=◌, ◌>>◌, refuse_if}
use Rattle.text.specs.Line.{numbers_of}
use Rattle.text.specs.Numbers.{bad_line, not_defined}
use Rattle.text.specs.Rules.{Rule, any_unknown}

-- what a line's numbers come to: a malformed line is 4, then their first fault
unfoldable pub judged : Rule → List ℕ → ℕ → Option (List ℕ) → Outcome (List ℕ)
judged rule defined place none = refused bad_line place
judged rule defined place (some fs) =
    elim (rule.fault defined fs) [ none ↦ taken fs | some number ↦ refused number place ]

-- how far reading has come: the numbers of this section's lines, the variables defined so far, the lines not read yet
pub record Body : Type 0 where
  pub rows : List (List ℕ)
  pub defined : List ℕ
  pub rest : List (List ℕ)

unfoldable pub with_row : Rule → Body → List ℕ → Body
with_row rule b fs =
    record {
      rows = b.rows ++ (fs ∷ []);
      defined = b.defined ++ cond rule.defines (variable (get_or fs 0 0) ∷ []) [];
      rest = drop 1 b.rest;
    }

-- n lines of one kind, the first of them at a place
unfoldable pub section : Rule → ℕ → ℕ → Body → Outcome Body
section rule zero place b = taken b
section rule (suc n) place b =
    judged rule b.defined place (numbers_of rule.count (get_or b.rest 0 []))
    >>= λ fs. section rule n (suc place) (with_row rule b fs)

-- the next section begins
unfoldable pub onward : Body → Body
onward b = record { rows = []; defined = b.defined; rest = b.rest }

-- the late 7: literals used on the lines from a place on, a list for each line
unfoldable pub used : List ℕ → ℕ → List (List ℕ) → Outcome (Unit {0})
used defined place [] = taken tt
used defined place (ls ∷ rest) = refuse_if (any_unknown defined ls) not_defined place >> used defined (suc place) rest
