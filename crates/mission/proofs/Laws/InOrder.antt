-- A circuit that is read stands in order (01, "The file", rule 4; 02, T-01): what a well-formed file says of its lines, said of its circuit.
-- Assumes nothing.
use Prim.Native.Nat.{ℕ}
use mathlib.Core.List.{List, [], ◌∷◌, ◌++◌, map}
use mathlib.Core.Logic.{inl, inr}
use mathlib.Core.Path.{◌≡◌, sym, ap, ◌∙◌, subst}
use lib.ListN.{length, get_or}
use Rattle.below.proofs.Laws.Table.{map_table, table_get_or}
use Rattle.circuit.specs.Circuit.{Circuit, Input, Latch, Gate}
use Rattle.circuit.specs.Limits.{Limits, base}
use Rattle.circuit.specs.Literal.{variable}
use Rattle.circuit.specs.Outcome.{taken}
use Rattle.text.specs.Above.{Operands as OperandsIn}
use Rattle.text.specs.InList.{All}
use Rattle.text.specs.Symbol.{is_controllable}
use Rattle.text.specs.TextFile.{TextFile, circuit_of}
use Rattle.text.specs.WellFormed.{WellFormed, of_inputs_and_latches as of_inputs_and_latches_in, defined_in, Known as KnownIn}
use Rattle.text.proofs.Laws.TakenExactly.{taken_exactly}
use Rattle.text.proofs.Laws.Exact.{taken_circuit}
use Rattle.text.proofs.Laws.GateOrder.{defined_in_turn, gates_above, defined_once, known-in_turn}
use Rattle.text.proofs.Laws.Lists.{Differ, Fresh, pairs_fresh, all_weaker, in_member, no_member_of}
use Rattle.step.specs.Defined.{input_variable, latch_variable, gate_variable, of_inputs_and_latches, defined_by}
use Rattle.step.proofs.Laws.InOrder.{Once, Known, Operands, Nexts, InOrder}
use Rattle.file.specs.CircuitIn.{circuit_in}

fresh_once : (seen vs : List ℕ) → Fresh Differ seen vs → Once seen vs
fresh_once seen [] f = tt
fresh_once seen (v ∷ vs) f = (no_member_of v seen f.0, fresh_once (seen ++ (v ∷ [])) vs f.1)

known : (defined : List ℕ) (l : ℕ) → KnownIn defined l → Known defined l
known defined l (inl h) = inl h
known defined l (inr i) = inr (in_member (variable l) defined i)

operands_known : (above : List ℕ) (gs : List Gate) → OperandsIn above gs → Operands above gs
operands_known above [] o = tt
operands_known above (g ∷ gs) o =
    (known above g.left o.0, known above g.right o.1, operands_known (above ++ (gate_variable g ∷ [])) gs o.2)

nexts_known : (defined : List ℕ) (ls : List Latch) → All (λ (l : Latch). KnownIn defined l.next) ls → Nexts defined ls
nexts_known defined [] a = tt
nexts_known defined (l ∷ ls) a = (known defined l.next a.0, nexts_known defined ls a.1)

module _ (f : TextFile) where
  -- the circuit has its file's inputs
  inputs_are : map input_variable (circuit_of f).inputs ≡ map variable f.inputs
  unfolding circuit_of
  inputs_are = map_table input_variable input n ∙ sym (map_table variable own n) ∙ ap (map variable) (table_get_or f.inputs 0)
    where
      n : ℕ
      n = length f.inputs

      own : ℕ → ℕ
      own i = get_or f.inputs i 0

      input : ℕ → Input
      input i = record { own = own i; controllable = is_controllable f.symbols i }

  sources_are : of_inputs_and_latches_in f ≡ of_inputs_and_latches (circuit_of f)
  unfolding circuit_of
  sources_are = ap (λ (vs : List ℕ). vs ++ map latch_variable f.latches) (sym inputs_are)

  defined_are : defined_in_turn f ≡ defined_by (circuit_of f)
  defined_are = ap (λ (vs : List ℕ). vs ++ map gate_variable (circuit_of f).gates) sources_are

  well_formed_in_order : (limits : Limits) → WellFormed limits f → InOrder (circuit_of f)
  unfolding circuit_of
  well_formed_in_order limits w =
      record {
        once = subst (Once []) defined_are (fresh_once [] (defined_in_turn f) (pairs_fresh Differ [] (defined_in_turn f) (defined_once f w.no_circle w.once)));
        operands = subst (λ (vs : List ℕ). Operands vs (circuit_of f).gates) sources_are
            (operands_known (of_inputs_and_latches_in f) (circuit_of f).gates (gates_above f w.no_circle w.operands));
        nexts = subst (λ (vs : List ℕ). Nexts vs f.latches) defined_are
            (nexts_known (defined_in_turn f) f.latches (all_weaker (λ (l : Latch). KnownIn (defined_in f) l.next)
            (λ (l : Latch). KnownIn (defined_in_turn f) l.next) (λ l k. known-in_turn f w.no_circle l.next k) f.latches w.nexts));
        error = subst (λ (vs : List ℕ). Known vs f.output) defined_are
            (known (defined_in_turn f) f.output (known-in_turn f w.no_circle f.output w.error));
      }

pub read_in_order : (file : List ℕ) (c : Circuit) → circuit_in file ≡ taken c → InOrder c
unfolding circuit_in
read_in_order file c e =
    let (f, g, few, is) = (taken_circuit base file c).0 e in subst InOrder is (well_formed_in_order f base ((taken_exactly file f).0 g).1)
