-- The circuit record by its place, where the first record is whole and of kind 1; else nothing. Assumes nothing.
use mathlib.Core.Bool.{Bool, true, false, cond}
use mathlib.Core.List.{List, []}
use mathlib.Core.Option.{some}
use mathlib.Core.Path.{◌≡◌, sym, ap, ◌∙◌}
use Prim.Native.Nat.{ℕ}
use lib.Dec.{eqb}
use borrow.Author.Tests.{eq-eqb, ne_eqb}
use Rattle.std.specs.Prelude.{Some, None}
use Rattle.records.specs.CircuitRecord.{circuit_contents, circuit_record}
use Rattle.records.specs.Part.{bytes_of}
use Rattle.records.specs.Record.{split, circuit_kind}
use Rattle.records.specs.RecordAt.{record_at}
use Rattle.records.specs.Tables.{Tables, tables_of, circuit_part}
use Rattle.records.specs.declared.record.Record.{Record}
use Rattle.records.proofs.Laws.RecordAt.{found_record, found_none}
use Rattle.records.proofs.Laws.Tables.{tables_begin}

module _ (bytes : List ℕ) where
  pub no_first : None ≡ record_at 0 (split bytes) → [] ≡ circuit_record bytes
  unfolding circuit_record circuit_contents
  no_first e = sym (ap circuit_contents (found_none bytes 0 e))

  module _ (first : Record) (there : Some first ≡ record_at 0 (split bytes)) where
    by_kind : (b : Bool) → eqb first.kind circuit_kind ≡ b → cond b (bytes_of first.contents bytes) [] ≡ circuit_record bytes
    unfolding circuit_record circuit_contents
    by_kind b e =
        sym (ap circuit_contents (found_record bytes 0 first there).splits ∙ ap (λ (b : Bool). cond b (bytes_of first.contents bytes) []) e)

    pub first_circuit : first.kind ≡ circuit_kind → bytes_of first.contents bytes ≡ circuit_record bytes
    first_circuit e = by_kind true (eq-eqb first.kind circuit_kind e)

    pub first_of_other : (first.kind ≡ circuit_kind → ⊥) → [] ≡ circuit_record bytes
    first_of_other d = by_kind false (ne_eqb first.kind circuit_kind d)

-- where a certificate has tables, it is their circuit part
pub record_is_part : (accepted certificate : List ℕ) (t : Tables) → tables_of accepted certificate ≡ some t → circuit_record certificate ≡ circuit_part t
unfolding circuit_record circuit_contents
record_is_part accepted certificate t e = let (rest, first) = tables_begin accepted certificate t e in ap circuit_contents first
