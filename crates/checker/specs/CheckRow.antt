-- When a check is refused (01, "The numbers", 11 to 15), as a statement: the file's own number; 11 and 12; then 13, 14 and 15 of the tables,
-- each only if none before it applies. Assumes nothing.
use Rattle.std.specs.Prelude.{ℕ, List, ◌≡◌}
use Rattle.std.proofs.Math.Option.{none, some}
use Rattle.circuit.specs.Circuit.{Circuit}
use Rattle.circuit.specs.Outcome.{taken, refused}
use Rattle.file.specs.CircuitIn.{circuit_in}
use Rattle.records.specs.Tables.{accepted_kinds, Tables, replies, attacks, tables_of, circuit_part}
use Rattle.checker.specs.Lowest.{LowestReply, LowestAttack}
use Rattle.checker.specs.Numbers.{bad_shape, other_circuit, bad_table, bad_reset, broken_step}
use Rattle.checker.specs.WrongReset.{ResetNotHeld, ResetOfRankZero}
use Rattle.checker.specs.WrongTables.{WrongReplies, WrongAttacks}

-- three statements in turn: 13 and 14 at 0, and 15 at the lowest place
pub data Judged (Wrong Reset : Type 0) (Lowest : ℕ → Type 0) (number place : ℕ) : Type 0 where
  thirteen : number ≡ bad_table → place ≡ 0 → Wrong → Judged Wrong Reset Lowest number place
  fourteen : number ≡ bad_reset → place ≡ 0 → (Wrong → ⊥) → Reset → Judged Wrong Reset Lowest number place
  fifteen : number ≡ broken_step → (Wrong → ⊥) → (Reset → ⊥) → Lowest place → Judged Wrong Reset Lowest number place

-- what the tables of a certificate break
abbrev pub TablesBroken : Circuit → Tables → (number place : ℕ) → Type 0
TablesBroken c (replies circuit region kind table) number place =
    Judged (WrongReplies c region kind table) (ResetNotHeld region) (LowestReply c region kind table) number place
TablesBroken c (attacks circuit table) number place =
    Judged (WrongAttacks c table) (ResetOfRankZero c table) (LowestAttack c table) number place

-- the table of numbers, for a file and a certificate
pub data CheckRow (file certificate : List ℕ) (number place : ℕ) : Type 0 where
  of_file : circuit_in file ≡ refused number place → CheckRow file certificate number place
  eleven :
      number ≡ bad_shape → place ≡ 0 → (c : Circuit) → circuit_in file ≡ taken c
      → tables_of accepted_kinds certificate ≡ none
      → CheckRow file certificate number place
  twelve :
      number ≡ other_circuit → place ≡ 0 → (c : Circuit) → circuit_in file ≡ taken c
      → (t : Tables) → tables_of accepted_kinds certificate ≡ some t → (circuit_part t ≡ file → ⊥)
      → CheckRow file certificate number place
  in_tables :
      (c : Circuit) → circuit_in file ≡ taken c
      → (t : Tables) → tables_of accepted_kinds certificate ≡ some t → circuit_part t ≡ file → TablesBroken c t number place
      → CheckRow file certificate number place
