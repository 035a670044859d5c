-- Names in a list, and inputs and latches named one after the other: what is left to name, over the names so far, gives the whole.
-- Assumes nothing.
use Prim.Native.Nat.{ℕ, ◌+◌, ◌*◌, ◌/◌, ◌%◌, ◌<◌, ◌≤◌, min}
use native.Mathlib.Omega.{arith}
use native.Mathlib.Decide.{dec_lt, ℕ_discrete}
use native.Mathlib.Numerals.{add-one}
use mathlib.Core.Bool.{cond, not}
use mathlib.Core.List.{List}
use mathlib.Core.Logic.{◌≢◌}
use mathlib.Core.Path.{◌≡◌, refl, ap, fun_ext}
use lib.Dec.{eqb}
use lib.ListN.{length, get_or, set, take, drop, length-take}
use lib.Seq.{get_or-set_same, get_or-set_other}
use borrow.Author.Tests.{eq-eqb, ne_eqb}
use Rattle.below.specs.Table.{table}
use Rattle.below.proofs.Laws.Table.{drop_table, drop_table_all, get_or_table, get_or_table_past}
use Rattle.circuit.specs.Circuit.{Input, Latch}
use Rattle.circuit.specs.Limits.{base}
use Rattle.circuit.specs.Literal.{variable}
use Rattle.circuit.specs.Stored.{literal_of, inputs_of, latches_of, lent, on_lines, meant}
use Rattle.circuit.specs.declared.Circuit.{Circuit as Value}
use Rattle.circuit.proofs.Laws.StoredLiteral.{variable_within}
use Rattle.net.specs.Inner.NamesIn.{names_in}
use Rattle.net.specs.InOrder.{variables}
use Rattle.net.specs.NetOf.{Names, name, net_literal, name_inputs, name_latches}
use Rattle.net.proofs.Laws.Room.{few_inputs, few_controls, front_within}
use Rattle.net.proofs.Laws.Names.{Below, name_below, literal_constant, literal_made}

-- the variable of a stored literal is one of a circuit's
pub place_within : (l : ℕ) → literal_of l / 2 ≤ base.variable
unfolding variable
place_within l = variable_within l

-- a number written at a variable is its name
pub name_set : (names : List ℕ) (v w : ℕ) → v < length names → names_in (set names v w) ≡ name v w (names_in names)
unfolding names_in name
name_set names v w h = fun_ext (λ u. elim (ℕ_discrete u v) [ yes e ↦ here u e | no d ↦ there u d ])
  where
    here : (u : ℕ) → u ≡ v → get_or (set names v w) u 0 ≡ cond (eqb u v) w (get_or names u 0)
    here u e = rw (e, get_or-set_same names v w 0 h, eq-eqb v v refl)

    there : (u : ℕ) → u ≢ v → get_or (set names v w) u 0 ≡ cond (eqb u v) w (get_or names u 0)
    there u d = rw (get_or-set_other names v u w 0 d, ne_eqb u v d)

pub stored_named : (names : List ℕ) (l w : ℕ) → base.variable < length names
    → names_in (set names (literal_of l / 2) w) ≡ name (variable (literal_of l)) w (names_in names)
unfolding variable
stored_named names l w h = name_set names (literal_of l / 2) w (omega (arith, place_within l))

-- each name stays below a bound
pub set_below : (names : List ℕ) (v w n : ℕ) → Below n (names_in names) → v < length names → w < n → Below n (names_in (set names v w))
set_below names v w n b h l = rw (name_set names v w h) (name_below n v w (names_in names) b l)

-- no variable has a name where each number is 0
pub names_none : (n : ℕ) (names : List ℕ) → names ≡ table (λ i. 0) n → names_in names ≡ (λ v. 0)
unfolding names_in
names_none n names e =
    fun_ext (λ v. rw e (elim (dec_lt v n) [ yes h ↦ get_or_table (λ i. 0) n v 0 h | no h ↦ get_or_table_past (λ i. 0) n v 0 (omega arith) ]))

pub none_below : (n : ℕ) (names : List ℕ) → names ≡ table (λ i. 0) n → Below variables (names_in names)
none_below n names e v = rw (names_none n names e) (omega arith)

-- the net's literal for a constant, and for another that is stored
pub literal_named : (names : List ℕ) (l : ℕ) → 2 ≤ l → net_literal (names_in names) l ≡ 2 * get_or names (l / 2) 0 + l % 2
unfolding names_in
literal_named names l h = literal_made (names_in names) l h

pub name_small : (names : List ℕ) (v : ℕ) → Below variables (names_in names) → get_or names v 0 < variables
unfolding names_in
name_small names v b = b v

module _ (v : Value) where
  input_at : ℕ → Input
  input_at i = record { own = literal_of (get_or (take v.inputs v.input) i 0); controllable = not (eqb (get_or v.controllable i 0) 0) }

  -- an input takes the next name of the controls or of the readings
  pub inputs_next : (i control reading : ℕ) (names : Names) → i < length (take v.inputs v.input)
      → name_inputs (drop i (meant v).inputs) control reading names
      ≡ cond (not (eqb (get_or v.controllable i 0) 0))
      (name_inputs (drop (i + 1) (meant v).inputs) (control + 1) reading
      (name (variable (literal_of (get_or (take v.inputs v.input) i 0))) control names))
      (name_inputs (drop (i + 1) (meant v).inputs) control (reading + 1)
      (name (variable (literal_of (get_or (take v.inputs v.input) i 0))) reading names))
  unfolding meant on_lines lent inputs_of input_at name_inputs
  inputs_next i control reading names h =
      rw (add-one i, add-one control, add-one reading)
      (ap (λ (is : List Input). name_inputs is control reading names) (drop_table input_at (length (take v.inputs v.input)) i h))

  pub inputs_end : (i control reading : ℕ) (names : Names) → length (take v.inputs v.input) ≤ i
      → name_inputs (drop i (meant v).inputs) control reading names ≡ names
  unfolding meant on_lines lent inputs_of input_at name_inputs
  inputs_end i control reading names h =
      ap (λ (is : List Input). name_inputs is control reading names) (drop_table_all input_at (length (take v.inputs v.input)) i h)

  latch_at : ℕ → Latch
  latch_at i = record { own = literal_of (get_or (take v.latches v.latch) i 0); next = literal_of (get_or v.next i 0) }

  -- a latch takes the next name
  pub latches_next : (i w : ℕ) (names : Names) → length v.latch ≤ base.latches → i < length (take v.latches v.latch)
      → name_latches (drop i (meant v).latches) w names
      ≡ name_latches (drop (i + 1) (meant v).latches) (w + 1) (name (variable (literal_of (get_or (take v.latches v.latch) i 0))) w names)
  unfolding meant on_lines lent latches_of latch_at name_latches
  latches_next i w names l h =
      rw (add-one i, add-one w)
      (ap (λ (ls : List Latch). name_latches ls w names)
      (drop_table latch_at (min (length (take v.latches v.latch)) base.latches) i (omega (arith, length-take v.latches v.latch))))

  pub latches_end : (i w : ℕ) (names : Names) → length (take v.latches v.latch) ≤ i → name_latches (drop i (meant v).latches) w names ≡ names
  unfolding meant on_lines lent latches_of latch_at name_latches
  latches_end i w names h =
      ap (λ (ls : List Latch). name_latches ls w names) (drop_table_all latch_at (min (length (take v.latches v.latch)) base.latches) i (omega arith))

-- what a name that is given leaves, and what a literal's name makes
pub ruleset names_kept = (place_within, stored_named, set_below)

pub ruleset literals_named = (place_within, name_small, literal_constant, literal_named)

-- what a loop over inputs and over latches names
pub ruleset inputs_named = (inputs_next, inputs_end, few_controls, front_within)

pub ruleset latches_named = (latches_next, latches_end, few_inputs, front_within)
