-- A circuit that is read keeps the limits, so what is stored of it stands for it. Assumes nothing.
use Prim.Native.Nat.{ℕ, zero, suc, ◌+◌, ◌*◌, ◌≤◌}
use native.Mathlib.Omega.{arith}
use mathlib.Core.Bool.{false}
use mathlib.Core.List.{List, [], ◌∷◌, map}
use mathlib.Core.Path.{◌≡◌, refl, sym, ◌∙◌, subst}
use lib.ListN.{length, get_or, get_or-eq_default}
use Rattle.below.proofs.Laws.Table.{length_table, map_table, table_get_or}
use Rattle.circuit.specs.Circuit.{Circuit, Input, Latch, Gate, too_many}
use Rattle.circuit.specs.Limits.{base}
use Rattle.circuit.specs.Outcome.{taken}
use Rattle.circuit.specs.Stored.{meant, stored, solvable}
use Rattle.circuit.proofs.Laws.Meant.{Fits, meant-stored}
use Rattle.text.specs.GateUses.{evaluated}
use Rattle.text.specs.InList.{All}
use Rattle.text.specs.Read.{circuit_read}
use Rattle.text.specs.Symbol.{is_controllable}
use Rattle.text.specs.TextFile.{TextFile, circuit_of}
use Rattle.text.specs.WellFormed.{WellFormed, Defining, LatchLine, GateLine}
use Rattle.text.proofs.Laws.Exact.{taken_circuit}
use Rattle.text.proofs.Laws.GateOrder.{same_count, gates_all}
use Rattle.text.proofs.Laws.Lists.{all_map, all_weaker}
use Rattle.text.proofs.Laws.Sound.{sound}

zero_least : (i : ℕ) → length {A = ℕ} [] ≤ i
zero_least i = omega arith

-- a list whose numbers are at most n, and a field whose numbers are
most_at : (n : ℕ) (l : List ℕ) → All (λ m. m ≤ n) l → (i : ℕ) → get_or l i 0 ≤ n
most_at n [] a i = let e : get_or {A = ℕ} [] i 0 ≡ 0 = get_or-eq_default [] 0 (zero_least i) in omega (arith, e)
most_at n (x ∷ xs) a zero = a.0
most_at n (x ∷ xs) a (suc i) = most_at n xs a.1 i

most_of : {A : Type 0} (P : A → Type 0) (f : A → ℕ) (n : ℕ) → ((x : A) → P x → f x ≤ n) → (l : List A) → All P l → (i : ℕ) → get_or (map f l) i 0 ≤ n
most_of P f n small l a i = most_at n (map f l) (all_map (λ m. m ≤ n) f l (all_weaker P (λ x. f x ≤ n) small l a)) i

module _ (f : TextFile) (w : WellFormed base f) where
  input_at : ℕ → Input
  input_at i = record { own = get_or f.inputs i 0; controllable = is_controllable f.symbols i }

  owns : map (λ (i : Input). i.own) (circuit_of f).inputs ≡ f.inputs
  unfolding circuit_of input_at
  owns = map_table (λ (i : Input). i.own) input_at (length f.inputs) ∙ table_get_or f.inputs 0

  inputs_most : (i : ℕ) → get_or f.inputs i 0 ≤ 2 * base.variable + 1
  inputs_most = most_at (2 * base.variable + 1) f.inputs (all_weaker (Defining f.largest) (λ m. m ≤ 2 * base.variable + 1)
      (λ x p. omega (arith, p.most, w.largest)) f.inputs w.inputs)

  few : length (circuit_of f).inputs ≡ length f.inputs
  unfolding circuit_of input_at
  few = length_table input_at (length f.inputs)

  gate_lines_lem : All (GateLine f.largest) (circuit_of f).gates
  gate_lines_lem = gates_all f w.no_circle (GateLine f.largest) w.gates

  circuit_fits : Fits (circuit_of f)
  unfolding circuit_of
  circuit_fits =
      record {
        inputs = omega (arith, w.input_count, few);
        latches = w.latch_count;
        gates = omega (arith, w.room, w.largest, same_count f w.no_circle);
        input = λ i. subst (λ (l : List ℕ). get_or l i 0 ≤ 2 * base.variable + 1) (sym owns) (inputs_most i);
        latch = most_of (LatchLine f.largest) (λ (l : Latch). l.own) (2 * base.variable + 1) (λ x p. omega (arith, p.own.most, w.largest))
            f.latches w.latches;
        next = most_of (LatchLine f.largest) (λ (l : Latch). l.next) (2 * base.variable + 1) (λ x p. omega (arith, p.next, w.largest))
            f.latches w.latches;
        output = omega (arith, w.output, w.largest);
        gate = most_of (GateLine f.largest) (λ (g : Gate). g.own) (2 * base.variable + 1) (λ x p. omega (arith, p.own.most, w.largest))
            (circuit_of f).gates gate_lines_lem;
        left = most_of (GateLine f.largest) (λ (g : Gate). g.left) (2 * base.variable + 1) (λ x p. omega (arith, p.left, w.largest))
            (circuit_of f).gates gate_lines_lem;
        right = most_of (GateLine f.largest) (λ (g : Gate). g.right) (2 * base.variable + 1) (λ x p. omega (arith, p.right, w.largest))
            (circuit_of f).gates gate_lines_lem;
        lines = length_table (evaluated f.gates) (length f.gates) ∙ sym (same_count f w.no_circle);
      }

-- what is stored of a circuit that was read stands for it
pub read_meant : (bytes : List ℕ) (c : Circuit) → circuit_read base bytes ≡ taken c → meant (stored c) ≡ c
read_meant bytes c e =
    let (f, t, m, same) = (taken_circuit base bytes c).0 e in
    meant-stored c (subst Fits same (circuit_fits f (sound base bytes f refl (omega arith) t).1))

-- and none of its sorts of inputs has too many
pub read_solvable : (bytes : List ℕ) (c : Circuit) → circuit_read base bytes ≡ taken c → solvable c ≡ c
unfolding solvable
read_solvable bytes c e =
    let (f, t, m, same) = (taken_circuit base bytes c).0 e in
    rw (subst (λ (d : Circuit). too_many base d ≡ false) same m)
