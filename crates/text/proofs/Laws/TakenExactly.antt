-- Reading agrees with the format: under the limits of the circuit kind a file is taken as f exactly if it is the text written for f and f is
-- as document 01 asks; so a file is the text of one f at most. Assumes nothing.
use Prim.Native.Nat.{ℕ, ◌+◌, ◌*◌, ◌^◌, ◌<◌, ◌≤◌}
use native.Mathlib.Omega.{arith}
use mathlib.Core.List.{List}
use mathlib.Core.Logic.{◌↔◌}
use mathlib.Core.Path.{◌≡◌, refl, sym, ap, ◌∙◌}
use Rattle.circuit.specs.Limits.{base}
use Rattle.circuit.specs.Outcome.{taken}
use Rattle.text.specs.Read.{file_read}
use Rattle.text.specs.TextFile.{TextFile}
use Rattle.text.specs.WellFormed.{WellFormed}
use Rattle.text.specs.Written.{text_of}
use Rattle.text.proofs.Laws.Complete.{complete}
use Rattle.text.proofs.Laws.Outcome.{taken_is}
use Rattle.text.proofs.Laws.Sound.{sound}

-- no literal of the circuit kind has more than seven digits
pub base-digits : (f : TextFile) → f.largest ≤ base.variable → 2 * f.largest + 1 < 10 ^ 7
base-digits f h = omega arith

pub taken_exactly : (bytes : List ℕ) (f : TextFile) → (file_read base bytes ≡ taken f) ↔ ((bytes ≡ text_of f) × WellFormed base f)
taken_exactly bytes f = (sound base bytes f refl (omega arith), λ t. ap (file_read base) t.0 ∙ complete base f t.1 refl)

pub written_once : (f g : TextFile) → WellFormed base f → WellFormed base g → text_of f ≡ text_of g → f ≡ g
written_once f g v w e = taken_is f g (sym (complete base f v refl) ∙ ap (file_read base) e ∙ complete base g w refl)
