-- A circuit that was read lies within the limits, and so does its file (01, the table of limits). Assumes nothing.
use Prim.Native.Nat.{ℕ, ◌≤◌}
use native.Mathlib.Omega.{arith}
use mathlib.Core.Bool.{false}
use mathlib.Core.List.{List}
use mathlib.Core.Path.{◌≡◌, refl, sym, subst}
use lib.ListN.{length}
use Rattle.circuit.specs.Circuit.{Circuit, latch_count, uncontrollable_count, controllable_count, too_many}
use Rattle.circuit.specs.Limits.{base}
use Rattle.circuit.specs.Outcome.{taken}
use Rattle.circuit.proofs.Laws.Solvable.{few_are}
use Rattle.file.specs.CircuitIn.{circuit_in}
use Rattle.text.specs.TextFile.{TextFile, circuit_of}
use Rattle.text.proofs.Laws.Exact.{taken_circuit}
use Rattle.text.proofs.Laws.Sound.{sound}

pub record Within (file : List ℕ) (c : Circuit) : Type 0 where
  pub short : length file ≤ base.file
  pub few_latches : latch_count c ≤ base.latches
  pub few_readings : uncontrollable_count c ≤ base.uncontrollable
  pub few_controls : controllable_count c ≤ base.controllable

module _ (f : TextFile) where
  latches_of_lem : latch_count (circuit_of f) ≡ length f.latches
  unfolding latch_count circuit_of
  latches_of_lem = refl

  few_of :
      too_many base (circuit_of f) ≡ false
      → (uncontrollable_count (circuit_of f) ≤ base.uncontrollable) × (controllable_count (circuit_of f) ≤ base.controllable)
  unfolding too_many
  few_of e = few_are (uncontrollable_count (circuit_of f)) (controllable_count (circuit_of f)) e

pub read_within : (file : List ℕ) (c : Circuit) → circuit_in file ≡ taken c → Within file c
unfolding circuit_in
read_within file c e =
    let (f, g, t, is) = (taken_circuit base file c).0 e in
    let (same, well) = sound base file f refl (omega arith) g in
    let (readings, controls) = few_of f t in
    subst (Within file) is
    (record {
      short = subst (λ (l : List ℕ). length l ≤ base.file) (sym same) well.file;
      few_latches = subst (λ (n : ℕ). n ≤ base.latches) (sym (latches_of_lem f)) well.latch_count;
      few_readings = readings;
      few_controls = controls;
    })
