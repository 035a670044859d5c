-- A pass, taken apart: the file is read, the certificate has tables, its circuit part is the file byte by byte, and the tables pass for the
-- circuit (01, "The certificate": a certificate passes exactly if no number applies). Assumes nothing.
use Prim.Native.Nat.{ℕ}
use mathlib.Core.Bool.{false, not}
use mathlib.Core.List.{List, [], ◌++◌}
use mathlib.Core.Option.{Option, none, some}
use mathlib.Core.Path.{◌≡◌, sym, ap, ◌∙◌, subst}
use borrow.Author.Tests.{not-false}
use Rattle.bits.specs.Bytes.{same_bytes}
use Rattle.bits.specs.Digits.{AllBelow}
use Rattle.bits.proofs.Laws.Bytes.{same_bytes_equal}
use Rattle.circuit.specs.Circuit.{Circuit}
use Rattle.circuit.specs.Outcome.{Outcome, taken, ◌>>=◌, ◌>>◌, refuse_if}
use Rattle.circuit.proofs.Laws.Outcome.{refused_is-not_taken, bind_taken, passed_test}
use Rattle.file.specs.CircuitIn.{circuit_in}
use Rattle.records.specs.Record.{record_of, whole, circuit_kind}
use Rattle.records.specs.Tables.{accepted_kinds, Tables, replies, attacks, tables_of, circuit_part}
use Rattle.records.proofs.Laws.Record.{whole_record}
use Rattle.records.proofs.Laws.Tables.{tables_begin}
use Rattle.checker.specs.Check.{or_bad_shape, or_retired, tables_checked, chain_of, check_of}
use Rattle.checker.specs.Numbers.{other_circuit}
use Rattle.checker.specs.Rules.{bad_reply_tables, bad_attack_table, reset_outside, reset_unranked}
use Rattle.checker.specs.Rules.{broken_reply, some_reply_broken, broken_attack, some_attack_broken}
use Rattle.checker.proofs.Laws.JudgedBy.{judged_fine, fine_judged}
use Rattle.checker.proofs.Laws.Retired.{none_retired}

-- no number applies to a reply table
pub record RepliesPass (c : Circuit) (region : List ℕ) (kind : ℕ) (table : List ℕ) : Type 0 where
  pub sized : bad_reply_tables c region kind table ≡ false
  pub reset : reset_outside c region ≡ false
  pub rule : some_reply_broken c region kind table ≡ false

-- no number applies to an attack table
pub record AttacksPass (c : Circuit) (table : List ℕ) : Type 0 where
  pub sized : bad_attack_table c table ≡ false
  pub reset : reset_unranked c table ≡ false
  pub rule : some_attack_broken c table ≡ false

abbrev pub TablesPass : Circuit → Tables → Type 0
TablesPass c (replies circuit region kind table) = RepliesPass c region kind table
TablesPass c (attacks circuit table) = AttacksPass c table

pub tables_pass : (c : Circuit) (u t : Tables) → tables_checked c u ≡ taken t → (u ≡ t) × TablesPass c u
unfolding tables_checked
tables_pass c (replies circuit region kind table) t e =
    let fine = fine_judged _ _ _ (broken_reply c region kind table) (replies circuit region kind table) t e in
    (fine.same, record { sized = fine.sized; reset = fine.reset_is; rule = fine.rule })
tables_pass c (attacks circuit table) t e =
    let fine = fine_judged _ _ _ (broken_attack c table) (attacks circuit table) t e in
    (fine.same, record { sized = fine.sized; reset = fine.reset_is; rule = fine.rule })

-- and back: no test refuses tables that pass
pub tables_taken : (c : Circuit) (t : Tables) → TablesPass c t → tables_checked c t ≡ taken t
unfolding tables_checked
tables_taken c (replies circuit region kind table) p = judged_fine _ _ _ _ _ p.sized p.reset p.rule
tables_taken c (attacks circuit table) p = judged_fine _ _ _ _ _ p.sized p.reset p.rule

pub record Passes (file certificate : List ℕ) (t : Tables) : Type 0 where
  pub circuit : Circuit
  pub reads : circuit_in file ≡ taken circuit
  pub tables : tables_of accepted_kinds certificate ≡ some t
  pub same : circuit_part t ≡ file
  pub fine : TablesPass circuit t

shaped_is : (o : Option Tables) (t : Tables) → or_bad_shape o ≡ taken t → o ≡ some t
unfolding or_bad_shape
shaped_is none t e = absurd (refused_is-not_taken _ _ t e)
shaped_is (some u) t e = cc

pub pass_is : (file certificate : List ℕ) (t : Tables) → check_of file certificate ≡ taken t → Passes file certificate t
unfolding check_of chain_of
pass_is file certificate t e =
    let shape = or_bad_shape (tables_of accepted_kinds certificate) in
    let on : Circuit → Tables → Outcome Tables =
    λ c u. refuse_if (not (same_bytes (circuit_part u) file)) other_circuit 0 >> (or_retired [] u >> tables_checked c u) in
    let (c, reads, e1) = bind_taken (circuit_in file) (λ c. shape >>= on c) t e in
    let (u, shaped, e2) = bind_taken shape (on c) t e1 in
    let (same, e3) = passed_test (not (same_bytes (circuit_part u) file)) other_circuit 0 (or_retired [] u >> tables_checked c u) t e2 in
    let (is, fine) = tables_pass c u t (sym (none_retired u (tables_checked c u)) ∙ e3) in
    subst (Passes file certificate) is
    (record {
      circuit = c;
      reads = reads;
      tables = shaped_is _ u shaped;
      same = same_bytes_equal _ _ (not-false _ same);
      fine = fine;
    })

-- the circuit part is the file, byte by byte
pub pass_same_circuit : (file certificate : List ℕ) (t : Tables) → check_of file certificate ≡ taken t → circuit_part t ≡ file
pass_same_circuit file certificate t e = (pass_is file certificate t e).same

-- and the certificate begins with its record
pub pass_begins :
    (file certificate : List ℕ) (t : Tables) → AllBelow 256 certificate → check_of file certificate ≡ taken t
    → (rest : List ℕ) × (certificate ≡ record_of circuit_kind file ++ rest)
pass_begins file certificate t bytes e =
    let p = pass_is file certificate t e in
    let (rest, first) = tables_begin accepted_kinds certificate t p.tables in
    (rest, whole_record certificate circuit_kind file rest bytes (first ∙ ap (λ (l : List ℕ). whole circuit_kind l rest) p.same))
