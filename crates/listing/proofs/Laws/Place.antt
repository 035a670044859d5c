-- Number and place of a refusal are small (01, "The numbers"): a number below 100, and a place that is a line of the file or the line that it
-- misses. Assumes nothing.
use Prim.Native.Nat.{ℕ, suc, ◌+◌, ◌^◌, ◌<◌, ◌≤◌}
use native.Mathlib.Omega.{arith}
use mathlib.Core.Bool.{Bool, true, false, cond}
use mathlib.Core.List.{List, [], ◌∷◌, ◌++◌, map}
use mathlib.Core.Logic.{◌⊎◌, inl, inr}
use mathlib.Core.Path.{◌≡◌, refl, ap}
use lib.Dec.{eqb}
use lib.ListN.{length, drop, length-append, length-drop, length-map, length-replicate}
use Rattle.circuit.specs.Limits.{base}
use Rattle.circuit.specs.Outcome.{refused}
use Rattle.file.specs.CircuitIn.{circuit_in}
use Rattle.text.specs.BodyBroken.{gates_on, BodyBroken, in_lines, in_use, in_circle, in_symbols}
use Rattle.text.specs.FirstFault.{AllRight, FirstFault}
use Rattle.text.specs.Header.{Header}
use Rattle.text.specs.Kind.{Kind, kinds, defined_by, used_by_all, gate_of}
use Rattle.text.specs.Line.{before, lines}
use Rattle.text.specs.Numbers.{bad_symbol, gate_circle}
use Rattle.text.specs.Row.{Row, one, two, three, four_to_eight, nine}
use Rattle.text.specs.Within.{Within}
use Rattle.text.specs.Written.{symbol_line}
use Rattle.text.proofs.Laws.BodyBroken.{body_range}
use Rattle.text.proofs.Laws.Exact.{refused_exactly}

before_few : (b : ℕ) (ls : List (List ℕ)) (n : ℕ) → length ls ≤ n → length (before b ls) ≤ suc n
unfolding before
before_few b [] n h = omega arith
before_few b (l ∷ ls) n h = omega arith

-- a file has no more lines than bytes
lines_few : (s : List ℕ) → length (lines s) ≤ length s
unfolding lines
lines_few [] = omega arith
lines_few (b ∷ s) = by (eqb b 10) (lines_few s)
  where
    by : (t : Bool) → length (lines s) ≤ length s → length (cond t ((b ∷ []) ∷ lines s) (before b (lines s))) ≤ suc (length s)
    by true few = omega arith
    by false few = before_few b (lines s) (length s) few

-- the first fault of lines stands in one of them
first-place :
    (M : ℕ) (ks : List Kind) (defined : List ℕ) (ls : List (List ℕ)) (at number place : ℕ) → FirstFault M ks defined ls at number place
    → place < at + length ks
first-place M [] defined ls at number place w = absurd w
first-place M (k ∷ ks) defined ls at number place (inl (p, f)) = omega arith
first-place M (k ∷ ks) defined ls at number place (inr (fs, r, more)) =
    omega (arith, first-place M ks (defined ++ defined_by k fs) (drop 1 ls) (suc at) number place more)

-- what lines use is at most a list for each, and lines that are right are as many as their kinds
used_few : (ks : List Kind) (rows : List (List ℕ)) → length (used_by_all ks rows) ≤ length ks
used_few [] rows = omega arith
used_few (k ∷ ks) [] = omega arith
used_few (k ∷ ks) (fs ∷ rows) = omega (arith, used_few ks rows)

right_long :
    (M : ℕ) (ks : List Kind) (defined : List ℕ) (ls rows : List (List ℕ)) → AllRight M ks defined ls rows
    → length rows ≡ length ks
right_long M [] defined ls [] w = refl
right_long M [] defined ls (fs ∷ rows) w = absurd w
right_long M (k ∷ ks) defined ls [] w = absurd w
right_long M (k ∷ ks) defined ls (fs ∷ rows) w = ap suc (right_long M ks (defined ++ defined_by k fs) (drop 1 ls) rows w.1)

module _ (h : Header) (rest : List (List ℕ)) where
  kinds_long : length (kinds h) ≡ h.inputs + h.latches + 1 + h.gates
  kinds_long =
      omega (arith, length-append {A = Kind}, length-replicate {A = Kind})

  gates_few : (rows : List (List ℕ)) → AllRight h.largest (kinds h) [] rest rows → length (gates_on h rows) ≡ h.gates
  gates_few rows r =
      omega (
        arith,
        length-map (drop (h.inputs + h.latches + 1) rows) gate_of,
        length-drop (h.inputs + h.latches + 1) rows,
        right_long h.largest (kinds h) [] rest rows r,
        kinds_long,
      )

  body-place : Within base h → (number place : ℕ) → BodyBroken h rest number place → place < 1004 + length rest
  body-place w number place (in_lines k) =
      omega (arith, w.room, w.largest, first-place h.largest (kinds h) [] rest 2 number place k, kinds_long)
  body-place w number place (in_use rows r k) = omega (arith, w.room, w.largest, k.within, k.line, used_few (kinds h) rows, kinds_long)
  body-place w number place (in_circle rows r u k) = omega (arith, w.room, w.largest, k.within, k.line, gates_few rows r)
  body-place w number place (in_symbols rows r u k) =
      omega (
        arith,
        w.room,
        w.largest,
        k.at,
        ap length k.lines,
        length-append (map symbol_line k.before) (k.line ∷ k.after),
        length-map k.before symbol_line,
        length-drop (length (kinds h)) rest,
      )

pub refusal_small : (file : List ℕ) (number place : ℕ) → circuit_in file ≡ refused number place → (number < 10 ^ 2) × (place < 10 ^ 5)
unfolding circuit_in
refusal_small file number place e = by ((refused_exactly base file number place).0 e)
  where
    small : (number ≤ bad_symbol) ⊎ (number ≡ gate_circle) → number < 10 ^ 2
    small (inl h) = omega (arith, h)
    small (inr h) = omega (arith, h)

    by : Row base file number place → (number < 10 ^ 2) × (place < 10 ^ 5)
    by (one n p a) = (omega arith, omega arith)
    by (two n p a b) = (omega arith, omega arith)
    by (three n p a h t w) = (omega arith, omega arith)
    by (four_to_eight h b k) = (
      small (body_range h (drop 1 (lines file)) number place k).1,
      omega
          (arith, body-place h (drop 1 (lines file)) b.within number place k, length-drop 1 (lines file), lines_few file, b.short),
    )
    by (nine n p f r t) = (omega arith, omega arith)
