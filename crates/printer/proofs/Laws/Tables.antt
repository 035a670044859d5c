-- The symbols of the controllable inputs, input by input. Assumes nothing.
use Prim.Native.Nat.{ℕ, zero, suc, ◌+◌}
use native.Mathlib.Omega.{arith}
use native.Mathlib.Nat.{zero-add}
use mathlib.Core.Bool.{Bool, true, false, cond}
use mathlib.Core.List.{List, [], ◌∷◌, ◌++◌, map, flat_map, append_assoc, append-nil}
use mathlib.Core.Path.{◌≡◌, refl, sym, ap, ap₂, ◌∙◌}
use lib.ListN.{length}
use Rattle.below.specs.Table.{table}
use Rattle.below.proofs.Laws.Table.{length_table}
use Rattle.bits.specs.InTurn.{in_turn}
use Rattle.circuit.specs.Circuit.{Input}
use Rattle.decimal.proofs.Laws.InTurn.{flat_map_append}
use Rattle.text.specs.Number.{decimal}
use Rattle.text.specs.Printed.{printed_symbols}
use Rattle.text.specs.Symbol.{Symbol, input_letter, prefix}
use Rattle.text.specs.Written.{symbol_line}

pub flat_map_map : {A B : Type 0} (f : B → List ℕ) (g : A → B) (xs : List A) → flat_map f (map g xs) ≡ flat_map (λ x. f (g x)) xs
unfolding flat_map
flat_map_map f g [] = refl
flat_map_map f g (x ∷ xs) = ap (λ (l : List ℕ). f (g x) ++ l) (flat_map_map f g xs)

-- the symbol of an input at a position, if it is controllable
symbols_of : ℕ → Input → List Symbol
symbols_of position i = cond i.controllable (record { letter = input_letter; position = position; name = prefix ++ decimal position } ∷ []) []

unfoldable pub symbol_text : ℕ → Input → List ℕ
symbol_text position i = cond i.controllable (symbol_line (record { letter = input_letter; position = position; name = prefix ++ decimal position })) []

symbols_text : (position : ℕ) (i : Input) → flat_map symbol_line (symbols_of position i) ≡ symbol_text position i
unfolding symbols_of symbol_text flat_map
symbols_text position i = by i.controllable
  where
    by :
        (b : Bool)
        → flat_map symbol_line (cond b (record { letter = input_letter; position = position; name = prefix ++ decimal position } ∷ []) [])
        ≡ cond b (symbol_line (record { letter = input_letter; position = position; name = prefix ++ decimal position })) []
    by true = append-nil _
    by false = refl

symbols_append :
    (position : ℕ) (is : List Input) (i : Input)
    → printed_symbols position (is ++ (i ∷ [])) ≡ printed_symbols position is ++ symbols_of (position + length is) i
unfolding printed_symbols symbols_of
symbols_append position [] i = append-nil (symbols_of position i) ∙ ap (λ (p : ℕ). symbols_of p i) (omega arith)
symbols_append position (j ∷ js) i =
    ap (λ (l : List Symbol). symbols_of position j ++ l)
    (symbols_append (suc position) js i ∙ ap (λ (p : ℕ). printed_symbols (suc position) js ++ symbols_of p i) (omega arith))
    ∙ sym (append_assoc (symbols_of position j) (printed_symbols (suc position) js) (symbols_of (position + length (j ∷ js)) i))

pub symbols_table : (row : ℕ → Input) (n : ℕ) → flat_map symbol_line (printed_symbols 0 (table row n)) ≡ in_turn (λ i. symbol_text i (row i)) n
unfolding table in_turn printed_symbols flat_map
symbols_table row zero = refl
symbols_table row (suc n) =
    ap (flat_map symbol_line) (symbols_append 0 (table row n) (row n))
    ∙ flat_map_append symbol_line (printed_symbols 0 (table row n)) (symbols_of (0 + length (table row n)) (row n))
    ∙ ap₂ {C = List ℕ} (λ xs ys. xs ++ ys) (symbols_table row n)
    (symbols_text (0 + length (table row n)) (row n) ∙ ap (λ (p : ℕ). symbol_text p (row n)) (zero-add (length (table row n)) ∙ length_table row n))
