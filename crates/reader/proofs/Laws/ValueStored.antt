-- From rows and flags to the circuit that the file means, as it is stored. Assumes nothing.
use Prim.Native.Nat.{ℕ, zero, suc, ◌+◌, ◌<◌}
use native.Mathlib.Omega.{arith}
use mathlib.Core.Bool.{Bool, true, false, cond, not, ◌||◌}
use mathlib.Core.List.{List, [], ◌∷◌, ◌++◌, map, map-map}
use mathlib.Core.Path.{◌≡◌, refl, sym, ap, ap₂, ◌∙◌}
use lib.Dec.{eqb, ltb}
use lib.ListN.{length, get_or, take, replicate, length-map, length-replicate, length-take, length-append}
use Rattle.below.specs.Table.{table}
use Rattle.below.proofs.Laws.Table.{length_table, get_or_table, map_table, table_get_or, table_same}
use Rattle.bits.specs.Bit.{one_if}
use Rattle.circuit.specs.Circuit.{Input, Latch, Gate, inputs_that, uncontrollable_count, controllable_count, too_many, gate_at}
use Rattle.circuit.specs.Limits.{base}
use Rattle.circuit.specs.Stored.{padded, stored, inputs_of, literal_of, lent, on_lines, meant}
use Rattle.order.specs.Place.{place_in}
use Rattle.reader.specs.Inner.Few.{Few}
use Rattle.reader.specs.Inner.OrderedAs.{InOrder}
use Rattle.reader.specs.Inner.Rows.{cell, column_of, gate_on, row_gates, rows_file}
use Rattle.reader.specs.Inner.SymbolsAs.{Flags}
use Rattle.reader.specs.Inner.ValueOf.{ordered_column, value_of}
use Rattle.reader.proofs.Laws.ColumnLoop.{padded-is}
use Rattle.reader.proofs.Laws.OrderLoop.{gate_below}
use Rattle.text.specs.GateUses.{evaluation, evaluated}
use Rattle.text.specs.Header.{Header}
use Rattle.text.specs.Symbol.{Symbols, is_controllable}
use Rattle.text.specs.TextFile.{TextFile, circuit_of}

-- counting the inputs of tables
inputs_that_snoc : (p : Input → Bool) (is : List Input) (i : Input) → inputs_that p (is ++ (i ∷ [])) ≡ cond (p i) (suc (inputs_that p is)) (inputs_that p is)
unfolding inputs_that
inputs_that_snoc p [] i = refl
inputs_that_snoc p (j ∷ is) i = by (p j) (p i) (inputs_that_snoc p is i)
  where
    by : (a b : Bool) → inputs_that p (is ++ (i ∷ [])) ≡ cond b (suc (inputs_that p is)) (inputs_that p is)
        → cond a (suc (inputs_that p (is ++ (i ∷ [])))) (inputs_that p (is ++ (i ∷ []))) ≡ cond b (suc (cond a (suc (inputs_that p is)) (inputs_that p is)))
        (cond a (suc (inputs_that p is)) (inputs_that p is))
    by true true e = ap suc e
    by true false e = ap suc e
    by false true e = e
    by false false e = e

inputs_that_same : (p q : Input → Bool) (f g : ℕ → Input) (n : ℕ) → ((i : ℕ) → i < n → p (f i) ≡ q (g i)) → inputs_that p (table f n) ≡ inputs_that q
    (table g n)
unfolding table inputs_that
inputs_that_same p q f g zero e = refl
inputs_that_same p q f g (suc n) e = inputs_that_snoc p (table f n) (f n) ∙ ap₂ (λ (b : Bool) (m : ℕ). cond b (suc m) m) (e n (omega arith))
    (inputs_that_same p q f g n (λ i h. e i (omega arith))) ∙ sym (inputs_that_snoc q (table g n) (g n))

flag_is : (b : Bool) → not (eqb (one_if b) 0) ≡ b
unfolding one_if
flag_is true = refl
flag_is false = refl

-- functions that agree on what a list holds
map_same : {B : Type 0} (f g : ℕ → B) (xs : List ℕ) → ((k : ℕ) → k < length xs → f (get_or xs k 0) ≡ g (get_or xs k 0)) → map f xs ≡ map g xs
map_same f g xs e =
    ap (map f) (sym (table_get_or xs 0)) ∙ map_table f (λ k. get_or xs k 0) (length xs)
    ∙ table_same (λ k. f (get_or xs k 0)) (λ k. g (get_or xs k 0)) (length xs) e
    ∙ sym (ap (map g) (sym (table_get_or xs 0)) ∙ map_table g (λ k. get_or xs k 0) (length xs))

-- the circuit that rows, order and flags make is the one that the file means
module _ (h : Header) (rows : List (List ℕ)) (order flags : List ℕ) (behind : Symbols) (few : Few h) (flagged : Flags h.inputs flags behind.symbols)
    (placed : order ≡ evaluation (row_gates h rows)) (all : InOrder order h.gates) where
  abbrev file : TextFile
  file = rows_file h rows behind

  inputs_long : length (column_of rows 0 h.inputs 0) ≡ h.inputs
  unfolding column_of
  inputs_long = length_table (λ i. cell rows (0 + i) 0) h.inputs

  -- the inputs' own literals, and their flags
  input_column_lem : map (λ (i : Input). i.own) (circuit_of file).inputs ≡ column_of rows 0 h.inputs 0
  unfolding circuit_of rows_file
  input_column_lem =
      map_table (λ (i : Input). i.own) (λ i. record { own = get_or (column_of rows 0 h.inputs 0) i 0; controllable = is_controllable behind.symbols i })
      (length (column_of rows 0 h.inputs 0))
      ∙ table_get_or (column_of rows 0 h.inputs 0) 0

  flag_column : map (λ (i : Input). one_if i.controllable) (circuit_of file).inputs ≡ table (λ i. one_if (is_controllable behind.symbols i)) h.inputs
  unfolding circuit_of rows_file
  flag_column =
      map_table (λ (i : Input). one_if i.controllable) (λ i. record {
        own = get_or (column_of rows 0 h.inputs 0) i 0;
        controllable = is_controllable
            behind.symbols i;
      }) (length (column_of rows 0 h.inputs 0))
      ∙ ap (table (λ i. one_if (is_controllable behind.symbols i))) inputs_long

  flags_padded : flags ≡ padded base.inputs (table (λ i. one_if (is_controllable behind.symbols i)) h.inputs)
  flags_padded =
      padded-is base.inputs flags (table flag h.inputs) flagged.long (omega (arith, size, few.inputs))
      (λ i l. flagged.says i (omega (arith, size)) ∙ sym (get_or_table flag h.inputs i 0 (omega (arith, size))))
      (λ i l. flagged.others i (omega (arith, size)))
    where
      flag : ℕ → ℕ
      flag i = one_if (is_controllable behind.symbols i)

      size : length (table flag h.inputs) ≡ h.inputs
      size = length_table flag h.inputs

  -- the gates in their order, and their places
  gate_count : length (row_gates h rows) ≡ h.gates
  gate_count = length_table (λ i. gate_on rows (h.inputs + h.latches + 1 + i)) h.gates

  gate_of_lem : (f : Gate → ℕ) (which : ℕ) → ((j : ℕ) → f (gate_on rows j) ≡ cell rows j which)
      → ordered_column rows (h.inputs + h.latches + 1) order which ≡ map f (map (gate_at (row_gates h rows)) (evaluation (row_gates h rows)))
  unfolding ordered_column gate_at
  gate_of_lem f which e =
      map_same (λ i. cell rows (h.inputs + h.latches + 1 + i) which) (λ i. f (gate_at (row_gates h rows) i)) order
      (λ k l.
      let low : get_or order k 0 < h.gates = gate_below order h.gates all k l in
      sym (ap f (get_or_table (λ i. gate_on rows (h.inputs + h.latches + 1 + i)) h.gates (get_or order k 0) (record { own = 0; left = 0; right = 0 }) low)
      ∙ e (h.inputs + h.latches + 1 + get_or order k 0)))
      ∙ sym (map-map f (gate_at (row_gates h rows)) order)
      ∙ ap (λ (l : List ℕ). map f (map (gate_at (row_gates h rows)) l)) placed

  placed_long : h.gates ≡ length (map (gate_at (row_gates h rows)) (evaluation (row_gates h rows)))
  placed_long = sym (length-map (evaluation (row_gates h rows)) (gate_at (row_gates h rows)) ∙ ap length (sym placed) ∙ all.ordered.long)

  places_are : table (place_in order) h.gates ≡ table (evaluated (row_gates h rows)) (length (row_gates h rows))
  unfolding evaluated
  places_are = λ x. table (place_in (placed x)) (sym gate_count x)

  pub value_stored : value_of h rows order flags ≡ stored (circuit_of file)
  unfolding value_of stored circuit_of rows_file column_of gate_on
  value_stored =
      λ x.
      record {
        largest = h.largest;
        inputs = sym (length_table {A = Input} (λ i. record {
          own = get_or (column_of rows 0 h.inputs 0) i 0;
          controllable = is_controllable behind.symbols
              i;
        }) (length (column_of rows 0 h.inputs 0)) ∙ inputs_long) x;
        latches = sym (length_table {A = Latch} (λ i. record { own = cell rows (h.inputs + i) 0; next = cell rows (h.inputs + i) 1 }) h.latches) x;
        gates = placed_long x;
        input = padded base.inputs (sym input_column_lem x);
        controllable = (flags_padded ∙ ap (padded base.inputs) (sym flag_column)) x;
        latch = padded base.latches (sym (map_table (λ (l : Latch). l.own) (λ i. record
            { own = cell rows (h.inputs + i) 0; next = cell rows (h.inputs + i) 1 }) h.latches) x);
        next = padded base.latches (sym (map_table (λ (l : Latch). l.next) (λ i. record
            { own = cell rows (h.inputs + i) 0; next = cell rows (h.inputs + i) 1 }) h.latches) x);
        output = cell rows (h.inputs + h.latches) 0;
        gate = padded base.variable (gate_of_lem (λ (g : Gate). g.own) 0 (λ j. refl) x);
        left = padded base.variable (gate_of_lem (λ (g : Gate). g.left) 1 (λ j. refl) x);
        right = padded base.variable (gate_of_lem (λ (g : Gate). g.right) 2 (λ j. refl) x);
        lines = padded base.variable (places_are x);
      }

  -- inputs of each sort, counted in the value and in the circuit
  pub too_many_same : too_many base (meant (value_of h rows order flags)) ≡ too_many base (circuit_of file)
  unfolding too_many meant on_lines lent uncontrollable_count controllable_count inputs_of circuit_of rows_file value_of padded
  too_many_same = ap₂ (λ (u c : ℕ). ltb base.uncontrollable u || ltb base.controllable c)
      (count (λ i. not i.controllable) (λ i l. ap not (flag i l))) (count (λ i. i.controllable) flag)
    where
      front : List ℕ
      front = take h.inputs (padded base.inputs (column_of rows 0 h.inputs 0))

      front_long : length front ≡ h.inputs
      front_long =
          let column = column_of rows 0 h.inputs 0 in
          let zeros = replicate {A = ℕ} base.inputs 0 in
          let long = length-take base.inputs (column ++ zeros) in
          length-take h.inputs (padded base.inputs column)
          ∙ omega (arith, few.inputs, long, length-append column zeros, length-replicate {A = ℕ} base.inputs 0)

      flag : (i : ℕ) → i < h.inputs → not (eqb (get_or flags i 0) 0) ≡ is_controllable behind.symbols i
      flag i l = ap (λ (n : ℕ). not (eqb n 0)) (flagged.says i l) ∙ flag_is (is_controllable behind.symbols i)

      asked : ℕ → Input
      asked i = record { own = literal_of (get_or front i 0); controllable = not (eqb (get_or flags i 0) 0) }

      told : ℕ → Input
      told i = record { own = get_or (column_of rows 0 h.inputs 0) i 0; controllable = is_controllable behind.symbols i }

      count : (p : Input → Bool) → ((i : ℕ) → i < h.inputs → p (asked i) ≡ p (told i))
          → inputs_that p (table asked (length front)) ≡ inputs_that p (table told (length (column_of rows 0 h.inputs 0)))
      count p e = rw (front_long, inputs_long) (inputs_that_same p p asked told h.inputs e)
