-- The check (01, "The numbers"): the file's refusals, then 11 to 15 in this order; a certificate passes exactly if no number applies.
-- Assumes nothing.
use Rattle.std.specs.Prelude.{ℕ, Bool, not, List, []}
use Rattle.std.proofs.Math.Option.{Option, none, some}
use Rattle.below.specs.Among.{member}
use Rattle.bits.specs.Bytes.{same_bytes}
use Rattle.circuit.specs.Circuit.{Circuit}
use Rattle.circuit.specs.Outcome.{Outcome, taken, refused, ◌>>=◌, ◌>>◌, refuse_if}
use Rattle.file.specs.CircuitIn.{circuit_in}
use Rattle.records.specs.Tables.{accepted_kinds, Tables, replies, attacks, tables_of, circuit_part}
use Rattle.checker.specs.Numbers.{bad_shape, other_circuit, bad_table, bad_reset, broken_step, retired_kind}
use Rattle.checker.specs.Rules.{bad_reply_tables, bad_attack_table, reset_outside, reset_unranked}
use Rattle.checker.specs.Rules.{broken_reply, some_reply_broken, broken_attack, some_attack_broken}

unfoldable pub or_bad_shape : Option Tables → Outcome Tables
or_bad_shape none = refused bad_shape 0
or_bad_shape (some t) = taken t

-- 13, 14 and 15 of tables, in turn: three tests, and the lowest place of the last
abbrev pub judged_by : (bad reset broken : Bool) (lowest : ℕ) → Tables → Outcome Tables
judged_by bad reset broken lowest t = do
  refuse_if bad bad_table 0
  refuse_if reset bad_reset 0
  refuse_if broken broken_step lowest
  taken t

-- of the tables of a certificate, for a circuit
unfoldable pub tables_checked : Circuit → Tables → Outcome Tables
tables_checked c (replies circuit region kind table) =
    judged_by (bad_reply_tables c region kind table) (reset_outside c region) (some_reply_broken c region kind table) (broken_reply c region kind table)
    (replies circuit region kind table)
tables_checked c (attacks circuit table) =
    judged_by (bad_attack_table c table) (reset_unranked c table) (some_attack_broken c table) (broken_attack c table) (attacks circuit table)

-- a reply record of a kind that is retired
unfoldable pub or_retired : (retired : List ℕ) → Tables → Outcome (Unit {0})
or_retired retired (replies circuit region kind table) = refuse_if (member kind retired) retired_kind 0
or_retired retired (attacks circuit table) = taken tt

-- the order of the numbers, given the kinds that are retired: the file's, 11, 12, that of a retired kind, 13 to 15
unfoldable pub chain_of : (retired : List ℕ) (file certificate : List ℕ) → Outcome Tables
chain_of retired file certificate = do
  c ← circuit_in file
  t ← or_bad_shape (tables_of accepted_kinds certificate)
  refuse_if (not (same_bytes (circuit_part t) file)) other_circuit 0
  or_retired retired t
  tables_checked c t

-- the tables of a certificate that passes for a file, or number and place; no kind is retired
unfoldable pub check_of : (file certificate : List ℕ) → Outcome Tables
check_of file certificate = chain_of [] file certificate
