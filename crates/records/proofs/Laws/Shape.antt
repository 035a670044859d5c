-- The shape of a certificate, record by record: what each test of the code decides. Assumes nothing.
use Prim.Native.Nat.{ℕ, ◌-◌, ◌≤◌}
use native.Mathlib.Decide.{ℕ_discrete}
use native.Mathlib.Omega.{arith}
use mathlib.Core.Bool.{Bool, true, false, cond, ◌||◌}
use mathlib.Core.List.{List}
use mathlib.Core.Logic.{◌⊎◌, inl, inr}
use mathlib.Core.Option.{none, some}
use mathlib.Core.Path.{◌≡◌, refl, sym, ap, ◌∙◌}
use borrow.Author.Tests.{eqb-true, eq-eqb, ne_eqb}
use lib.Dec.{eqb}
use lib.ListN.{length, drop, length-drop}
use lib.Seq.{length-take-le}
use Rattle.std.proofs.lemmas.Bool.Decides.{nat_tests}
use Rattle.std.specs.Bool.{then_some}
use Rattle.std.specs.Prelude.{Some, None}
use Rattle.below.specs.Among.{among, member}
use Rattle.records.specs.Kinds.{reply_kind_number, stored_as}
use Rattle.records.specs.Part.{part, bytes_of}
use Rattle.records.specs.Record.{Split, split, circuit_kind, region_kind, reply_kind, attack_kind, packed_kind}
use Rattle.records.specs.RecordAt.{record_at, contents_at}
use Rattle.records.specs.Shape.{shape_of}
use Rattle.records.specs.Tables.{accepted_kinds, replies, attacks, first_of, second_of, third_of}
use Rattle.records.specs.declared.kinds.ReplyKind.{ReplyKind}
use Rattle.records.specs.declared.record.Record.{Record}
use Rattle.records.specs.declared.record.Span.{Span}
use Rattle.records.specs.declared.tables.Shape.TheVariants.{Replies, Attacks}
use Rattle.records.proofs.Laws.Kinds.{reply_kind_taken, stored_as_number}
use Rattle.records.proofs.Laws.RecordAt.{Found, found_record, found_none}

pub length_part : (start end : ℕ) (bytes : List ℕ) → end ≤ length bytes → length (part start end bytes) ≡ end - start
length_part start end bytes h = length-take-le (end - start) (drop start bytes) (omega (arith, length-drop start bytes))

-- the kinds of reply record that are taken
pub kinds_are : (kind : ℕ) → member kind accepted_kinds ≡ true → (kind ≡ reply_kind) ⊎ (kind ≡ packed_kind)
unfolding member among
kinds_are kind e = elim (ℕ_discrete kind reply_kind) [ yes a ↦ inl a | no d ↦ inr (eqb-true kind packed_kind (sym (or-false (eqb kind packed_kind)) ∙ only d)) ]
  where
    or-false : (b : Bool) → (b || false) ≡ b
    or-false true = refl
    or-false false = refl

    only : (kind ≡ reply_kind → ⊥) → (eqb kind packed_kind || false) ≡ true
    only d = rw (ne_eqb kind reply_kind d) at e

module _ (certificate : List ℕ) (at : ℕ) where
  abbrev here : Split
  here = split (drop at certificate)

  module _ (none : None ≡ record_at at here) where
    pub no_first : None ≡ shape_of (first_of accepted_kinds here)
    unfolding shape_of first_of
    no_first = sym (ap (λ (s : Split). shape_of (first_of accepted_kinds s)) (found_none certificate at none))

    pub no_second : (circuit : List ℕ) → None ≡ shape_of (second_of accepted_kinds circuit here)
    unfolding shape_of second_of
    no_second circuit = sym (ap (λ (s : Split). shape_of (second_of accepted_kinds circuit s)) (found_none certificate at none))

    pub no_third : (circuit region : List ℕ) → None ≡ shape_of (third_of accepted_kinds circuit region here)
    unfolding shape_of third_of
    no_third circuit region = sym (ap (λ (s : Split). shape_of (third_of accepted_kinds circuit region s)) (found_none certificate at none))

  module _ (r : Record) (there : Some r ≡ record_at at here) where
    found : Found certificate at r
    found = found_record certificate at r there

    abbrev contents : List ℕ
    contents = bytes_of r.contents certificate

    abbrev behind : Split
    behind = split (drop r.contents.end certificate)

    -- contents behind those of the record before
    follows : (before known : Span) → before ≡ known → before.end ≡ at → r.contents ≡ contents_at known.end contents
    follows before known e a = found.lies ∙ ap (λ (n : ℕ). contents_at n contents) (sym a ∙ ap (λ (s : Span). s.end) e)

    last : eqb (length (drop r.contents.end certificate)) 0 ≡ eqb r.contents.end (length certificate)
    last = grind (arith, nat_tests, length-drop r.contents.end certificate, found.within)

    pub first_circuit : r.kind ≡ circuit_kind → shape_of (second_of accepted_kinds contents behind) ≡ shape_of (first_of accepted_kinds here)
    unfolding shape_of first_of
    first_circuit e = rw (found.splits, eq-eqb r.kind circuit_kind e)

    pub first_other : (r.kind ≡ circuit_kind → ⊥) → None ≡ shape_of (first_of accepted_kinds here)
    unfolding shape_of first_of
    first_other d = rw (found.splits, ne_eqb r.kind circuit_kind d)

    module _ (circuit : List ℕ) where
      pub second_region :
          r.kind ≡ region_kind → shape_of (third_of accepted_kinds circuit contents behind) ≡ shape_of (second_of accepted_kinds circuit here)
      unfolding shape_of second_of
      second_region e = rw (found.splits, eq-eqb r.kind region_kind e)

      pub second_other : (r.kind ≡ region_kind → ⊥) → (r.kind ≡ attack_kind → ⊥) → None ≡ shape_of (second_of accepted_kinds circuit here)
      unfolding shape_of second_of
      second_other d f = rw (found.splits, ne_eqb r.kind region_kind d, ne_eqb r.kind attack_kind f)

      pub second_attacks :
          r.kind ≡ attack_kind → (first : Span) → first ≡ contents_at 0 circuit → first.end ≡ at
          → then_some (eqb r.contents.end (length certificate)) (Attacks first r.contents) ≡ shape_of (second_of accepted_kinds circuit here)
      unfolding shape_of second_of
      second_attacks kind first e a =
          rw (found.splits, ne_eqb r.kind region_kind (λ (z : r.kind ≡ region_kind). omega arith), eq-eqb r.kind attack_kind kind, last)
          (by (eqb r.contents.end (length certificate)))
        where
          by : (b : Bool) → then_some b (Attacks first r.contents) ≡ shape_of (cond b (some (attacks circuit contents)) none)
          by true = λ i. Some (Attacks (e i) (follows first (contents_at 0 circuit) e a i))
          by false = refl

    module _ (circuit region : List ℕ) where
      pub third_other : member r.kind accepted_kinds ≡ false → None ≡ shape_of (third_of accepted_kinds circuit region here)
      unfolding shape_of third_of
      third_other e = rw (found.splits, e)

      pub third_is :
          (kind : ReplyKind) → r.kind ≡ reply_kind_number kind → (first second : Span) → first ≡ contents_at 0 circuit
          → second ≡ contents_at first.end region → second.end ≡ at
          → then_some (eqb r.contents.end (length certificate)) (Replies first second r.contents kind)
          ≡ shape_of (third_of accepted_kinds circuit region here)
      unfolding shape_of third_of
      third_is kind k first second e g a =
          rw (found.splits, ap (λ (n : ℕ). member n accepted_kinds) k ∙ reply_kind_taken kind, last) (by (eqb r.contents.end (length certificate)))
        where
          next : second ≡ contents_at (contents_at 0 circuit).end region
          next = g ∙ ap (λ (s : Span). contents_at s.end region) e

          same : kind ≡ stored_as r.kind
          same = sym (ap stored_as k ∙ stored_as_number kind)

          by : (b : Bool) → then_some b (Replies first second r.contents kind) ≡ shape_of (cond b (some (replies circuit region r.kind contents)) none)
          by true = λ i. Some (Replies (e i) (next i) (follows second (contents_at (contents_at 0 circuit).end region) next a i) (same i))
          by false = refl
