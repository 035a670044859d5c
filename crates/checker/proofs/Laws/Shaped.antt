-- The check by a certificate's shape, as the code takes it: 11, 12, and what the judging of the tables comes to. Assumes nothing.
use Prim.Native.Nat.{ℕ, ◌+◌}
use native.Mathlib.Omega.{arith}
use mathlib.Core.Bool.{true, false, Bool, not, true≢false}
use mathlib.Core.List.{List}
use mathlib.Core.Option.{some}
use mathlib.Core.Path.{◌≡◌, refl, sym, ap, ◌∙◌, subst, subst₂}
use borrow.Author.Tests.{not-true, not-false}
use lib.ListN.{length}
use Rattle.std.specs.Str.{bytes_eq}
use Rattle.std.proofs.lemmas.Slice.Eq.{bytes_eq-Decides}
use Rattle.std.specs.Prelude.{Some, None}
use Rattle.bits.specs.Bytes.{same_bytes}
use Rattle.bits.proofs.Laws.Bytes.{same_bytes_equal}
use Rattle.bits.proofs.Laws.SameBytes.{equal_same_bytes}
use Rattle.circuit.specs.Circuit.{Circuit}
use Rattle.circuit.specs.Outcome.{Outcome, taken, refused, ◌>>=◌, ◌>>◌}
use Rattle.records.specs.CircuitRecord.{circuit_record}
use Rattle.records.specs.Kinds.{reply_kind_number}
use Rattle.records.specs.Part.{bytes_of}
use Rattle.records.specs.Record.{head_length}
use Rattle.records.specs.Shape.{shape_of}
use Rattle.records.specs.Tables.{accepted_kinds, Tables, circuit_part, tables_of}
use Rattle.records.specs.declared.kinds.ReplyKind.{ReplyKind}
use Rattle.records.specs.declared.record.Span.{Span}
use Rattle.records.specs.declared.tables.Shape.{Shape}
use Rattle.records.specs.declared.tables.Shape.TheVariants.{Replies as ReplyShape, Attacks as AttackShape}
use Rattle.records.proofs.Laws.CircuitRecord.{record_is_part}
use Rattle.records.proofs.Laws.Parts.{no_shape, reply-parts, attack-parts}
use Rattle.checker.specs.Answer.{Starts, of_replies, of_attacks, starts_of, answer_of}
use Rattle.checker.specs.Check.{tables_checked}
use Rattle.checker.specs.Numbers.{bad_shape, other_circuit}
use Rattle.checker.specs.Inner.FileNet.{FileNet}
use Rattle.checker.specs.Inner.TablesAs.{RepliesAs, AttacksAs}
use Rattle.checker.specs.declared.sized.SizedNet.{SizedNet}
use Rattle.checker.proofs.Laws.Counted.{net_latches_are, net_readings_are, net_controls_are}
use Rattle.checker.proofs.Laws.JudgedBy.{tables_then}
use Rattle.checker.proofs.Laws.Stages.{misshapen_refused, other_refused, same_goes_on, answer_told}

-- what is told after the judging
then_told : (o : Outcome Tables) (s : Starts) → ((o >> taken (tt {0})) >>= λ u. taken s) ≡ (o >> taken s)
then_told (taken t) s = refl
then_told (refused n p) s = refl

module _ (file certificate : List ℕ) (net : SizedNet) (given : FileNet file net.numbers.now) where
  abbrev c : Circuit
  c = given.circuit

  pub misshapen : None ≡ shape_of (tables_of accepted_kinds certificate) → refused bad_shape 0 ≡ answer_of file certificate
  misshapen e = sym (answer_told file certificate c given.read (refused bad_shape 0) (misshapen_refused file certificate c given.read (no_shape certificate e)))

  module _ (t : Tables) (shape : tables_of accepted_kinds certificate ≡ some t) where
    part_is : circuit_record certificate ≡ circuit_part t
    part_is = record_is_part accepted_kinds certificate t shape

    other : (circuit_record certificate ≡ file → ⊥) → refused other_circuit 0 ≡ answer_of file certificate
    other d =
        sym (answer_told file certificate c given.read (refused other_circuit 0)
        (other_refused file certificate c given.read t shape (by (same_bytes (circuit_part t) file) refl)))
      where
        by : (b : Bool) → same_bytes (circuit_part t) file ≡ b → same_bytes (circuit_part t) file ≡ false
        by true e = absurd (d (part_is ∙ same_bytes_equal _ _ e))
        by false e = e

    -- the tables are judged, and where they start is told
    told : circuit_record certificate ≡ file → (o : Outcome (Unit {0})) → o ≡ (tables_checked c t >> taken tt)
        → (o >>= λ u. taken (starts_of c t)) ≡ answer_of file certificate
    told same o e =
        ap (λ (p : Outcome (Unit {0})). p >>= λ u. taken (starts_of c t)) e ∙ then_told (tables_checked c t) (starts_of c t)
        ∙ sym (tables_then (λ u. taken (starts_of c u)) c t)
        ∙ sym (answer_told file certificate c given.read (tables_checked c t)
        (same_goes_on file certificate c given.read t shape (equal_same_bytes (circuit_part t) file (sym part_is ∙ same))))

  -- the test of the code
  pub same_record : (r : Bool) → r ≡ not (bytes_eq (circuit_record certificate) file) → r ≡ false → circuit_record certificate ≡ file
  same_record r e f = (bytes_eq-Decides (circuit_record certificate) file).0 (not-false _ (sym e ∙ f))

  pub other_record : (r : Bool) → r ≡ not (bytes_eq (circuit_record certificate) file) → r ≡ true → circuit_record certificate ≡ file → ⊥
  other_record r e f g =
      true≢false (sym ((bytes_eq-Decides (circuit_record certificate) file).1 g) ∙ not-true _ (sym e ∙ f))

  -- a shape has tables
  pub differs : (s : Shape) → Some s ≡ shape_of (tables_of accepted_kinds certificate) → (circuit_record certificate ≡ file → ⊥) → refused other_circuit 0
      ≡ answer_of file certificate
  differs (ReplyShape circuit region table kind) e d = other _ (reply-parts certificate circuit region table kind e).tables d
  differs (AttackShape circuit table) e d = other _ (attack-parts certificate circuit table e).tables d

  module _ (same : circuit_record certificate ≡ file) (circuit table : Span) where
    pub replies_told :
        (region : Span) (kind : ReplyKind) → Some (ReplyShape circuit region table kind) ≡ shape_of (tables_of accepted_kinds certificate)
        → (held rows : List ℕ) → held ≡ bytes_of region certificate → rows ≡ bytes_of table certificate
        → (o : Outcome (Unit {0})) → RepliesAs net.numbers.now held (reply_kind_number kind) rows o
        → (o >>= λ u. taken (of_replies region.start table.start (reply_kind_number kind) net.counts.latches net.counts.readings net.counts.controls))
        ≡ answer_of file certificate
    unfolding starts_of
    replies_told region kind e held rows h r o judged =
        let parts = reply-parts certificate circuit region table kind e in
        let ends : circuit.end ≡ head_length + length (bytes_of circuit certificate) = ap (λ (s : Span). s.end) parts.circuit_at in
        let begins : region.start ≡ circuit.end + head_length = ap (λ (s : Span). s.start) parts.region_at in
        let behind : region.end ≡ circuit.end + head_length + length (bytes_of region certificate) = ap (λ (s : Span). s.end) parts.region_at in
        let starts : table.start ≡ region.end + head_length = ap (λ (s : Span). s.start) parts.table_at in
        let first : region.start ≡ head_length + length (bytes_of circuit certificate) + head_length = omega arith in
        let second : table.start ≡ head_length + length (bytes_of circuit certificate) + head_length + length (bytes_of region certificate) + head_length =
        omega arith in
        (λ i. o >>= λ u. taken (of_replies (first i) (second i) (reply_kind_number kind) ((net.latches ∙ net_latches_are c net.numbers.now given.is) i)
        ((net.readings ∙ net_readings_are c net.numbers.now given.is) i) ((net.controls ∙ net_controls_are c net.numbers.now given.is) i)))
        ∙ told _ parts.tables same o
        (subst₂ (λ (l m : List ℕ). RepliesAs net.numbers.now l (reply_kind_number kind) m o) h r judged c given.is (bytes_of circuit certificate))

    pub attacks_told :
        Some (AttackShape circuit table) ≡ shape_of (tables_of accepted_kinds certificate) → (rows : List ℕ) → rows ≡ bytes_of table certificate
        → (o : Outcome (Unit {0})) → AttacksAs net.numbers.now rows o
        → (o >>= λ u. taken (of_attacks table.start net.counts.latches net.counts.readings)) ≡ answer_of file certificate
    unfolding starts_of
    attacks_told e rows r o judged =
        let parts = attack-parts certificate circuit table e in
        let ends : circuit.end ≡ head_length + length (bytes_of circuit certificate) = ap (λ (s : Span). s.end) parts.circuit_at in
        let starts : table.start ≡ circuit.end + head_length = ap (λ (s : Span). s.start) parts.table_at in
        let first : table.start ≡ head_length + length (bytes_of circuit certificate) + head_length = omega arith in
        (λ i. o >>= λ u. taken (of_attacks (first i) ((net.latches ∙ net_latches_are c net.numbers.now given.is) i)
        ((net.readings ∙ net_readings_are c net.numbers.now given.is) i)))
        ∙ told _ parts.tables same o (subst (λ (l : List ℕ). AttacksAs net.numbers.now l o) r judged c given.is (bytes_of circuit certificate))
