-- A refusal has a number of the table, and that is never 0 (01, "The numbers"; 02, T-01): 1 to 9 and 16 for a file, 10 for a lent buffer.
-- Assumes nothing.
use Prim.Native.Nat.{ℕ, ◌≤◌}
use native.Mathlib.Omega.{arith}
use mathlib.Core.List.{List}
use mathlib.Core.Logic.{◌⊎◌, inl, inr}
use mathlib.Core.Path.{◌≡◌}
use lib.ListN.{drop}
use Rattle.circuit.specs.Answer.{no_room}
use Rattle.circuit.specs.Circuit.{Circuit}
use Rattle.circuit.specs.Limits.{base}
use Rattle.circuit.specs.Outcome.{refused}
use Rattle.text.specs.Line.{lines}
use Rattle.text.specs.Numbers.{bad_symbol, too_many_inputs, gate_circle}
use Rattle.text.specs.Row.{Row, one, two, three, four_to_eight, nine}
use Rattle.text.proofs.Laws.BodyBroken.{body_range}
use Rattle.text.proofs.Laws.Exact.{refused_exactly}
use Rattle.file.specs.CircuitIn.{circuit_in}
use Rattle.file.specs.WriterRow.{WriterRow, of_file, ten}

pub file_numbered :
    (file : List ℕ) (number place : ℕ) → circuit_in file ≡ refused number place
    → (1 ≤ number) × ((number ≤ too_many_inputs) ⊎ (number ≡ gate_circle))
unfolding circuit_in
file_numbered file number place e = by ((refused_exactly base file number place).0 e)
  where
    behind : (number ≤ bad_symbol) ⊎ (number ≡ gate_circle) → (number ≤ too_many_inputs) ⊎ (number ≡ gate_circle)
    behind (inl h) = inl (omega (arith, h))
    behind (inr h) = inr h

    by : Row base file number place → (1 ≤ number) × ((number ≤ too_many_inputs) ⊎ (number ≡ gate_circle))
    by (one n p a) = (omega (arith, n), inl (omega (arith, n)))
    by (two n p a b) = (omega (arith, n), inl (omega (arith, n)))
    by (three n p a h t w) = (omega (arith, n), inl (omega (arith, n)))
    by (four_to_eight h b k) = let (low, high) = body_range h (drop 1 (lines file)) number place k in (omega (arith, low), behind high)
    by (nine n p f e t) = (omega (arith, n), inl (omega (arith, n)))

pub writer_numbered :
    (file : List ℕ) (bytes : Circuit → List ℕ) (room number place : ℕ) → WriterRow file bytes room number place
    → (1 ≤ number) × ((number ≤ no_room) ⊎ (number ≡ gate_circle))
writer_numbered file bytes room number place (of_file e) = let (low, high) = file_numbered file number place e in (low, by high)
  where
    by : (number ≤ too_many_inputs) ⊎ (number ≡ gate_circle) → (number ≤ no_room) ⊎ (number ≡ gate_circle)
    by (inl h) = inl (omega (arith, h))
    by (inr h) = inr h
writer_numbered file bytes room number place (ten n p c read h) = (omega (arith, n), inl (omega (arith, n)))
