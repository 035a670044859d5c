-- A refusal of the check has a number of the table, and that is never 0 (01, "The numbers"; 02, T-01): 1 to 9 and 16 for the file, 11 to 15 for
-- the certificate. Assumes nothing.
use Prim.Native.Nat.{ℕ, ◌≤◌}
use native.Mathlib.Omega.{arith}
use mathlib.Core.List.{List}
use mathlib.Core.Logic.{◌⊎◌, inl, inr}
use mathlib.Core.Path.{◌≡◌}
use Rattle.circuit.specs.Outcome.{refused}
use Rattle.file.proofs.Laws.Numbered.{file_numbered}
use Rattle.records.specs.Tables.{replies, attacks}
use Rattle.checker.specs.Answer.{answer_of}
use Rattle.checker.specs.CheckRow.{Judged, thirteen, fourteen, fifteen, CheckRow, of_file, eleven, twelve, in_tables}
use Rattle.checker.proofs.Laws.Exact.{check_refused_exactly}

pub check_numbered : (file certificate : List ℕ) (number place : ℕ) → answer_of file certificate ≡ refused number place → (1 ≤ number) × (number ≤ 16)
check_numbered file certificate number place e = by ((check_refused_exactly file certificate number place).0 e)
  where
    judged : {Wrong Reset : Type 0} {Lowest : ℕ → Type 0} → Judged Wrong Reset Lowest number place → (1 ≤ number) × (number ≤ 16)
    judged (thirteen n p a) = (omega (arith, n), omega (arith, n))
    judged (fourteen n p a b) = (omega (arith, n), omega (arith, n))
    judged (fifteen n a b l) = (omega (arith, n), omega (arith, n))

    of_file_lem : (number ≤ 9) ⊎ (number ≡ 16) → number ≤ 16
    of_file_lem (inl h) = omega (arith, h)
    of_file_lem (inr h) = omega (arith, h)

    by : CheckRow file certificate number place → (1 ≤ number) × (number ≤ 16)
    by (of_file read) = let (low, high) = file_numbered file number place read in (low, of_file_lem high)
    by (eleven n p c read shape) = (omega (arith, n), omega (arith, n))
    by (twelve n p c read t shape other) = (omega (arith, n), omega (arith, n))
    by (in_tables c read (replies circuit region kind table) shape same w) = judged w
    by (in_tables c read (attacks circuit table) shape same w) = judged w
