-- The lines of the text that is written for a file: its header, then each section line by line, then what stands behind the gates.
-- Assumes nothing.
use Prim.Native.Nat.{ℕ}
use mathlib.Core.List.{List, [], ◌∷◌, ◌++◌, map, flat_map, append_assoc}
use mathlib.Core.Path.{◌≡◌, refl, ap, ◌∙◌}
use Rattle.text.specs.Headed.{row_of}
use Rattle.text.specs.Header.{word}
use Rattle.text.specs.Line.{lines}
use Rattle.text.specs.TextFile.{TextFile}
use Rattle.text.specs.Written.{number_line, symbol_line, comment_text, text_of}
use Rattle.text.proofs.Laws.Header.{header_for, header_is_line}
use Rattle.text.proofs.Laws.Line.{lines-first, lines_rows, number_line-is_line}
use Rattle.text.proofs.Laws.Rules.{input_row, latch_row, gate_row}

abbrev pub header_line : TextFile → List ℕ
header_line f = word ++ number_line (row_of (header_for f))

-- what stands behind the gates
abbrev pub behind_text : TextFile → List ℕ
behind_text f = flat_map symbol_line f.symbols ++ comment_text f.comment

-- the lines behind the header
abbrev pub body_lines : TextFile → List (List ℕ) → List (List ℕ)
body_lines f behind =
    map number_line (map input_row f.inputs)
    ++ (map number_line (map latch_row f.latches)
    ++ (map number_line ((f.output ∷ []) ∷ []) ++ (map number_line (map gate_row f.gates) ++ behind)))

regroup : (a b c d e f g : List ℕ) → a ++ b ++ c ++ d ++ e ++ f ++ g ≡ a ++ (b ++ (c ++ (d ++ (e ++ (f ++ g)))))
regroup a b c d e f g = simp append_assoc

flat_rows : {A : Type 0} (row : A → List ℕ) (xs : List A) → flat_map (λ x. number_line (row x)) xs ≡ flat_map number_line (map row xs)
unfolding flat_map
flat_rows row [] = refl
flat_rows row (x ∷ xs) = ap {B = List ℕ} (λ t. number_line (row x) ++ t) (flat_rows row xs)

-- the text that is written, each section as lines of numbers
pub text_by_rows : (f : TextFile) → text_of f ≡ header_line f ++ (flat_map number_line (map input_row f.inputs)
    ++ (flat_map number_line (map latch_row f.latches) ++ (number_line (f.output ∷ []) ++ (flat_map number_line (map gate_row f.gates) ++ behind_text f))))
unfolding text_of
text_by_rows f =
    regroup (header_line f) (flat_map (λ x. number_line (input_row x)) f.inputs) (flat_map (λ x. number_line (latch_row x)) f.latches)
    (number_line (f.output ∷ [])) (flat_map (λ x. number_line (gate_row x)) f.gates) (flat_map symbol_line f.symbols) (comment_text f.comment)
    ∙ λ i. header_line f ++ (flat_rows input_row f.inputs i ++ (flat_rows latch_row f.latches i
    ++ (number_line (f.output ∷ []) ++ (flat_rows gate_row f.gates i ++ behind_text f))))

pub lines_text : (f : TextFile) → lines (text_of f) ≡ header_line f ∷ body_lines f (lines (behind_text f))
unfolding flat_map
lines_text f =
    ap lines (text_by_rows f)
    ∙ lines-first (header_line f) (flat_map number_line is ++ (flat_map number_line ls
    ++ (number_line (f.output ∷ []) ++ (flat_map number_line gs ++ behind_text f)))) (header_is_line (header_for f))
    ∙ ap {B = List (List ℕ)} (λ r. header_line f ∷ r) (lines_rows is (flat_map number_line ls
    ++ (number_line (f.output ∷ []) ++ (flat_map number_line gs ++ behind_text f))))
    ∙ ap {B = List (List ℕ)} (λ r. header_line f ∷ (map number_line is ++ r))
    (lines_rows ls (number_line (f.output ∷ []) ++ (flat_map number_line gs ++ behind_text f)))
    ∙ ap {B = List (List ℕ)} (λ r. header_line f ∷ (map number_line is ++ (map number_line ls ++ r)))
    (lines-first (number_line (f.output ∷ [])) (flat_map number_line gs ++ behind_text f) (number_line-is_line (f.output ∷ [])))
    ∙ ap {B = List (List ℕ)} (λ r. header_line f ∷ (map number_line is ++ (map number_line ls ++ (number_line (f.output ∷ []) ∷ r))))
    (lines_rows gs (behind_text f))
  where
    is : List (List ℕ)
    is = map input_row f.inputs

    ls : List (List ℕ)
    ls = map latch_row f.latches

    gs : List (List ℕ)
    gs = map gate_row f.gates
