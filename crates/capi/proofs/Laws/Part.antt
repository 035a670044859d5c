-- The circuit record by its place: behind the first head, as long as its contents. Assumes nothing.
use Rattle.std.proofs.Common.{ℕ, ◌-◌, Bool, true, false, cond, List, ◌≡◌, sym, ap, ◌∙◌, eqb, length, arith}
use Rattle.std.specs.Prelude.{Some, None}
use borrow.Author.Tests.{eq-eqb, ne_eqb}
use Rattle.records.specs.Part.{bytes_of}
use Rattle.records.specs.Record.{cut, split, circuit_kind}
use Rattle.records.specs.RecordAt.{record_at}
use Rattle.records.specs.declared.record.Record.{Record}
use Rattle.records.specs.declared.record.Span.{Span}
use Rattle.records.proofs.Laws.RecordAt.{Found, found_record, found_none}
use Rattle.capi.specs.Plain.{circuit_part}
use Rattle.capi.specs.declared.Part.{Part}

-- the part that is nothing
pub nothing : (a : Part) → (a.start ≡ 0) × (a.bytes ≡ 0) → a ≡ circuit_part cut
unfolding circuit_part
nothing a e = λ x. record { start = e.0 x; bytes = e.1 x }

pub no_part : (bytes : List ℕ) → None ≡ record_at 0 (split bytes) → circuit_part cut ≡ circuit_part (split bytes)
no_part bytes e = sym (ap circuit_part (found_none bytes 0 e))

module _ (bytes : List ℕ) (first : Record) (there : Some first ≡ record_at 0 (split bytes)) where
  abbrev found : Found bytes 0 first
  found = found_record bytes 0 first there

  -- by its kind
  part : Bool → Part
  part b = cond b (record { start = 6; bytes = length (bytes_of first.contents bytes) }) (record { start = 0; bytes = 0 })

  by_kind : (b : Bool) → eqb first.kind circuit_kind ≡ b → part b ≡ circuit_part (split bytes)
  unfolding part circuit_part
  by_kind b e = sym (ap circuit_part found.splits ∙ ap part e)

  pub part_found :
      first.kind ≡ circuit_kind
      → ◌≡◌ {A = Part} (record { start = first.contents.start; bytes = first.contents.end - first.contents.start }) (circuit_part (split bytes))
  unfolding part
  part_found e =
      let long : first.contents.end - first.contents.start ≡ length (bytes_of first.contents bytes) =
      omega (arith, ap (λ (s : Span). s.end) found.lies, found.begins) in
      (λ x. record { start = found.begins x; bytes = long x }) ∙ by_kind true (eq-eqb first.kind circuit_kind e)

  pub part_of_other : (first.kind ≡ circuit_kind → ⊥) → circuit_part cut ≡ circuit_part (split bytes)
  unfolding part circuit_part
  part_of_other d = by_kind false (ne_eqb first.kind circuit_kind d)
