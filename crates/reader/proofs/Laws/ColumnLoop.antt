-- A column taken out of rows, number by number. Assumes nothing.
use Prim.Native.Nat.{ℕ, ◌+◌, ◌-◌, ◌<◌, ◌≤◌}
use native.Mathlib.Decide.{dec_lt, ℕ_discrete}
use native.Mathlib.Omega.{arith}
use mathlib.Core.List.{List, [], ◌++◌, map}
use mathlib.Core.Path.{◌≡◌, sym, ap, ◌∙◌}
use lib.ListN.{length, get_or, take, drop, set, replicate, length-set, length-take, length-drop, length-map, length-append, length-replicate}
use lib.ListN.{get_or-replicate, get_or-append}
use lib.Seq.{ext_get_or, get_or-take, get_or-drop, get_or-append-add, get_or-set_same, get_or-set_other}
use Rattle.below.specs.Table.{table}
use Rattle.below.proofs.Laws.Table.{length_table, get_or_table, map_table, table_get_or, table_same}
use Rattle.circuit.specs.Stored.{padded}
use Rattle.reader.specs.Inner.Rows.{cell, column_of}
use Rattle.reader.proofs.Laws.Zeros.{zeros_at}

-- a list of some numbers and zeros behind them is padded
pub padded-is : (n : ℕ) (l xs : List ℕ) → length l ≡ n → length xs ≤ n → ((i : ℕ) → i < length xs → get_or l i 0 ≡ get_or xs i 0)
    → ((i : ℕ) → length xs ≤ i → get_or l i 0 ≡ 0) → l ≡ padded n xs
unfolding padded
padded-is n l xs e fits same zeros = ext_get_or 0 l (take n (xs ++ replicate n 0)) (e ∙ sym long) at
  where
    long : length (take n (xs ++ replicate n 0)) ≡ n
    long = length-take n (xs ++ replicate n 0) ∙ omega (arith, length-append xs (replicate n 0), length-replicate {A = ℕ} n 0)

    behind : (i : ℕ) → length xs ≤ i → i < n → get_or (xs ++ replicate n 0) i 0 ≡ 0
    behind i h low =
        let off : length xs + (i - length xs) ≡ i = omega arith in
        ap (λ (j : ℕ). get_or (xs ++ replicate n 0) j 0) (sym off) ∙ get_or-append-add xs (replicate n 0) (i - length xs) 0
        ∙ get_or-replicate n (i - length xs) 0 0 (omega arith)

    at : (i : ℕ) → i < length l → get_or l i 0 ≡ get_or (take n (xs ++ replicate n 0)) i 0
    at i h =
        let low : i < n = omega (arith, e) in
        elim (dec_lt i (length xs)) [
          | yes a ↦ same i a ∙ sym (get_or-take n (xs ++ replicate n 0) i 0 low ∙ get_or-append xs (replicate n 0) 0 i a)
          | no a ↦ zeros i (omega arith) ∙ sym (get_or-take n (xs ++ replicate n 0) i 0 low ∙ behind i (omega arith) low)
        ]

-- an element of a list that a function made of another
pub get_or-map : {A B : Type 0} (f : A → B) (xs : List A) (i : ℕ) (a : A) (b : B) → i < length xs → get_or (map f xs) i b ≡ f (get_or xs i a)
get_or-map f xs i a b h =
    ap (λ l. get_or (map f l) i b) (sym (table_get_or xs a)) ∙ ap (λ l. get_or l i b) (map_table f (λ k. get_or xs k a) (length xs))
    ∙ get_or_table (λ k. f (get_or xs k a)) (length xs) i b h

-- i numbers are there, and zeros behind them
pub record Filling (f : List ℕ → ℕ) (rows : List (List ℕ)) (n : ℕ) (out : List ℕ) (i : ℕ) : Type 0 where
  pub long : length out ≡ n
  pub done : (j : ℕ) → j < i → get_or out j 0 ≡ f (get_or rows j [])
  pub zeros : (j : ℕ) → i ≤ j → get_or out j 0 ≡ 0

module _ (f : List ℕ → ℕ) (rows : List (List ℕ)) (n : ℕ) where
  pub filling_starts : (out : List ℕ) → out ≡ table (λ i. 0) n → Filling f rows n out 0
  filling_starts out e =
      record {
        long = ap length e ∙ length_table {A = ℕ} (λ i. 0) n;
        done = λ j h. absurd (omega arith);
        zeros = λ j h. ap (λ (l : List ℕ). get_or l j 0) e ∙ zeros_at n j;
      }

  module _ (out : List ℕ) (i : ℕ) (w : Filling f rows n out i) where
    pub filling_more : i < n → Filling f rows n (set out i (f (get_or rows i []))) (i + 1)
    filling_more h =
        record {
          long = length-set out i (f (get_or rows i [])) ∙ w.long;
          done = λ j l. elim (ℕ_discrete j i) [ yes e ↦ new j e | no d ↦ get_or-set_other out i j (f (get_or rows i [])) 0 d ∙ w.done j (omega arith) ];
          zeros = λ j l. get_or-set_other out i j (f (get_or rows i [])) 0 (λ e. omega arith) ∙ w.zeros j (omega arith);
        }
      where
        new : (j : ℕ) → j ≡ i → get_or (set out i (f (get_or rows i []))) j 0 ≡ f (get_or rows j [])
        new j e = rw e (get_or-set_same out i (f (get_or rows i [])) 0 (omega (arith, w.long)))

    pub filling_ends : i ≡ length rows → length rows ≤ n → out ≡ padded n (map f rows)
    filling_ends all room =
        padded-is n out (map f rows) w.long (omega (arith, length-map rows f))
        (λ j l. w.done j (omega (arith, length-map rows f)) ∙ sym (get_or-map f rows j [] 0 (omega (arith, length-map rows f))))
        (λ j l. w.zeros j (omega (arith, length-map rows f)))

-- a column of some rows from a start on
pub column_part : (rows : List (List ℕ)) (start count which : ℕ) → start + count ≤ length rows
    → map (λ (r : List ℕ). get_or r which 0) (take count (drop start rows)) ≡ column_of rows start count which
unfolding column_of cell
column_part rows start count which h =
    ap (map (λ (r : List ℕ). get_or r which 0)) (sym (table_get_or part []))
    ∙ map_table (λ (r : List ℕ). get_or r which 0) (λ k. get_or part k []) (length part)
    ∙ ap (table (λ k. get_or (get_or part k []) which 0)) long
    ∙ table_same _ _ count (λ k l. ap (λ (r : List ℕ). get_or r which 0)
    (get_or-take count (drop start rows) k [] l ∙ get_or-drop start rows k []))
  where
    part : List (List ℕ)
    part = take count (drop start rows)

    long : length part ≡ count
    long = length-take count (drop start rows) ∙ omega (arith, length-drop start rows)
