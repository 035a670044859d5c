-- The code's answer for the shape of a certificate names its tables as parts of it. Assumes nothing.
use Prim.Native.Nat.{ℕ, ◌+◌, ◌-◌, ◌≤◌}
use native.Mathlib.Omega.{arith}
use mathlib.Core.List.{List}
use mathlib.Core.Option.{Option as Maybe, none, some}
use mathlib.Core.Path.{◌≡◌, refl, sym, ap, ap₂, ◌∙◌, subst₂, subst₃}
use lib.ListN.{length, take, drop, length-drop}
use lib.Seq.{drop-drop}
use Rattle.std.specs.Prelude.{Some, None}
use Rattle.records.specs.Kinds.{reply_kind_number, stored_as}
use Rattle.records.specs.Part.{bytes_of}
use Rattle.records.specs.Record.{whole, split, circuit_kind, region_kind, attack_kind, head_length}
use Rattle.records.specs.RecordAt.{contents_at}
use Rattle.records.specs.Shape.{shape_of}
use Rattle.records.specs.Tables.{Tables, replies, attacks, accepted_kinds, tables_of}
use Rattle.records.specs.declared.kinds.ReplyKind.{ReplyKind}
use Rattle.records.specs.declared.record.Span.{Span}
use Rattle.records.specs.declared.tables.Shape.TheVariants.{Replies, Attacks}
use Rattle.records.proofs.Laws.Kinds.{number_of_stored}
use Rattle.records.proofs.Laws.Record.{whole_is}
use Rattle.records.proofs.Laws.Tables.{First, Second, with_region, with_attacks, tables-first, kind_taken}

-- contents of a record that starts at a place are a part of the whole, and so is what is behind
record Placed (bytes contents rest : List ℕ) (at : ℕ) : Type 0 where
  contents_are : contents ≡ bytes_of (contents_at at contents) bytes
  rest-is : rest ≡ drop (contents_at at contents).end bytes
  within : (contents_at at contents).end ≤ length bytes

placed :
    (bytes : List ℕ) (at kind : ℕ) (contents rest : List ℕ) → at ≤ length bytes → split (drop at bytes) ≡ whole kind contents rest
    → Placed bytes contents rest at
placed bytes at kind contents rest h e =
    let is = whole_is (drop at bytes) kind contents rest e in
    let long : length contents ≡ at + head_length + length contents - (at + head_length) = omega arith in
    let past : at + (head_length + length contents) ≡ at + head_length + length contents = omega arith in
    record {
      contents_are = is.inside ∙ ap₂ take long (drop-drop head_length at bytes);
      rest-is = is.behind ∙ drop-drop (head_length + length contents) at bytes ∙ ap (λ (n : ℕ). drop n bytes) past;
      within = omega (arith, is.within, length-drop at bytes);
    }

module _ (certificate : List ℕ) where
  -- the lists of an attack certificate, as parts of it
  record AttacksLie (circuit table : List ℕ) : Type 0 where
    circuit_lies : circuit ≡ bytes_of (contents_at 0 circuit) certificate
    table_lies : table ≡ bytes_of (contents_at (contents_at 0 circuit).end table) certificate

  attacks_lie : (circuit table : List ℕ) → First accepted_kinds certificate (attacks circuit table) → AttacksLie circuit table
  attacks_lie circuit table w = by w.behind
    where
      one : Placed certificate w.circuit w.rest 0
      one = placed certificate 0 circuit_kind w.circuit w.rest (omega arith) w.is

      by : Second accepted_kinds w.circuit (split w.rest) (attacks circuit table) → AttacksLie circuit table
      by (with_region region rest g v) =
          let z : attacks circuit table ≡ replies w.circuit region v.kind v.table = v.gives in
          absurd (let y : ◌≡◌ {A = ℕ} 0 1 = cc in omega arith)
      by (with_attacks contents rest g n v) =
          let two = placed certificate _ attack_kind contents rest one.within (ap split (sym one.rest-is) ∙ g) in
          let first : w.circuit ≡ circuit = cc in
          let last : contents ≡ table = cc in
          subst₂ AttacksLie first last (record { circuit_lies = one.contents_are; table_lies = two.contents_are })

  -- the lists of a reply certificate, as parts of it
  record RepliesLie (circuit region table : List ℕ) : Type 0 where
    circuit_lies : circuit ≡ bytes_of (contents_at 0 circuit) certificate
    region_lies : region ≡ bytes_of (contents_at (contents_at 0 circuit).end region) certificate
    table_lies : table ≡ bytes_of (contents_at (contents_at (contents_at 0 circuit).end region).end table) certificate

  replies_lie :
      (circuit region : List ℕ) (kind : ℕ) (table : List ℕ) → First accepted_kinds certificate (replies circuit region kind table)
      → RepliesLie circuit region table
  replies_lie circuit region kind table w = by w.behind
    where
      one : Placed certificate w.circuit w.rest 0
      one = placed certificate 0 circuit_kind w.circuit w.rest (omega arith) w.is

      by : Second accepted_kinds w.circuit (split w.rest) (replies circuit region kind table) → RepliesLie circuit region table
      by (with_attacks contents rest g n v) = absurd (let y : ◌≡◌ {A = ℕ} 0 1 = cc in omega arith)
      by (with_region contents rest g v) =
          let two = placed certificate _ region_kind contents rest one.within (ap split (sym one.rest-is) ∙ g) in
          let three = placed certificate _ v.kind v.table v.rest two.within (ap split (sym two.rest-is) ∙ v.is) in
          let same : replies circuit region kind table ≡ replies w.circuit contents v.kind v.table = v.gives in
          let first : w.circuit ≡ circuit = cc in
          let middle : contents ≡ region = cc in
          let last : v.table ≡ table = cc in
          subst₃ RepliesLie first middle last
          (record { circuit_lies = one.contents_are; region_lies = two.contents_are; table_lies = three.contents_are })

-- where the parts of a reply certificate lie
pub record ReplyParts (certificate : List ℕ) (circuit region table : Span) (kind : ReplyKind) : Type 0 where
  pub tables :
      tables_of accepted_kinds certificate
      ≡ some (replies (bytes_of circuit certificate) (bytes_of region certificate) (reply_kind_number kind) (bytes_of table certificate))
  pub circuit_at : circuit ≡ contents_at 0 (bytes_of circuit certificate)
  pub region_at : region ≡ contents_at circuit.end (bytes_of region certificate)
  pub table_at : table ≡ contents_at region.end (bytes_of table certificate)

-- where those of an attack certificate lie
pub record AttackParts (certificate : List ℕ) (circuit table : Span) : Type 0 where
  pub tables : tables_of accepted_kinds certificate ≡ some (attacks (bytes_of circuit certificate) (bytes_of table certificate))
  pub circuit_at : circuit ≡ contents_at 0 (bytes_of circuit certificate)
  pub table_at : table ≡ contents_at circuit.end (bytes_of table certificate)

module _ (certificate : List ℕ) where
  pub no_shape : None ≡ shape_of (tables_of accepted_kinds certificate) → tables_of accepted_kinds certificate ≡ none
  unfolding shape_of
  no_shape e = by (tables_of accepted_kinds certificate) refl e
    where
      by : (o : Maybe Tables) → tables_of accepted_kinds certificate ≡ o → None ≡ shape_of o → tables_of accepted_kinds certificate ≡ none
      by none f e = f
      by (some (replies circuit region kind table)) f e = cc
      by (some (attacks circuit table)) f e = cc

  pub attack-parts :
      (circuit table : Span) → Some (Attacks circuit table) ≡ shape_of (tables_of accepted_kinds certificate) → AttackParts certificate circuit table
  unfolding shape_of
  attack-parts circuit table e = by (tables_of accepted_kinds certificate) refl e
    where
      by :
          (o : Maybe Tables) → tables_of accepted_kinds certificate ≡ o → Some (Attacks circuit table) ≡ shape_of o
          → AttackParts certificate circuit table
      by none f e = cc
      by (some (replies states region kind bytes)) f e = cc
      by (some (attacks text bytes)) f e =
          let there = attacks_lie certificate text bytes (tables-first accepted_kinds certificate (attacks text bytes) f) in
          let first : contents_at 0 text ≡ circuit = cc in
          let second : contents_at (contents_at 0 text).end bytes ≡ table = cc in
          let one : text ≡ bytes_of circuit certificate = there.circuit_lies ∙ ap (λ (s : Span). bytes_of s certificate) first in
          let two : bytes ≡ bytes_of table certificate = there.table_lies ∙ ap (λ (s : Span). bytes_of s certificate) second in
          record {
            tables = f ∙ (λ i. some (attacks (one i) (two i)));
            circuit_at = sym first ∙ ap (contents_at 0) one;
            table_at = sym second ∙ (λ i. contents_at (first i).end (two i));
          }

  pub reply-parts :
      (circuit region table : Span) (kind : ReplyKind) → Some (Replies circuit region table kind) ≡ shape_of (tables_of accepted_kinds certificate)
      → ReplyParts certificate circuit region table kind
  unfolding shape_of
  reply-parts circuit region table kind e = by (tables_of accepted_kinds certificate) refl e
    where
      by :
          (o : Maybe Tables) → tables_of accepted_kinds certificate ≡ o → Some (Replies circuit region table kind) ≡ shape_of o
          → ReplyParts certificate circuit region table kind
      by none f e = cc
      by (some (attacks text bytes)) f e = cc
      by (some (replies text states sort bytes)) f e =
          let there = replies_lie certificate text states sort bytes (tables-first accepted_kinds certificate (replies text states sort bytes) f) in
          let first : contents_at 0 text ≡ circuit = cc in
          let second : contents_at (contents_at 0 text).end states ≡ region = cc in
          let third : contents_at (contents_at (contents_at 0 text).end states).end bytes ≡ table = cc in
          let stored : stored_as sort ≡ kind = cc in
          let one : text ≡ bytes_of circuit certificate = there.circuit_lies ∙ ap (λ (s : Span). bytes_of s certificate) first in
          let two : states ≡ bytes_of region certificate = there.region_lies ∙ ap (λ (s : Span). bytes_of s certificate) second in
          let three : bytes ≡ bytes_of table certificate = there.table_lies ∙ ap (λ (s : Span). bytes_of s certificate) third in
          let number : sort ≡ reply_kind_number kind =
          sym (number_of_stored sort (kind_taken accepted_kinds certificate text states sort bytes f)) ∙ ap reply_kind_number stored in
          record {
            tables = f ∙ (λ i. some (replies (one i) (two i) (number i) (three i)));
            circuit_at = sym first ∙ ap (contents_at 0) one;
            region_at = sym second ∙ (λ i. contents_at (first i).end (two i));
            table_at = sym third ∙ (λ i. contents_at (second i).end (three i));
          }
