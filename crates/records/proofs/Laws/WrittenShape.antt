-- Records written one behind the other are read back as the shape of a certificate: kinds 1, 2 and a kind of reply record that is accepted,
-- or kinds 1, 4. Assumes nothing.
use Prim.Native.Nat.{ℕ, ◌^◌, ◌<◌}
use native.Mathlib.Omega.{arith}
use mathlib.Core.Bool.{true}
use mathlib.Core.List.{List, [], ◌++◌, append-nil, append_assoc}
use mathlib.Core.Option.{some}
use mathlib.Core.Path.{◌≡◌, sym, ap, ◌∙◌}
use lib.ListN.{length}
use Rattle.below.specs.Among.{member}
use Rattle.records.specs.Record.{whole, split, record_of, circuit_kind, region_kind, attack_kind}
use Rattle.records.specs.Tables.{replies, attacks, tables_of, first_of, second_of, third_of}
use Rattle.records.proofs.Laws.Record.{split_record}

-- the last record, with nothing behind it
split_last : (kind : ℕ) (contents : List ℕ) → length contents < 2 ^ 32 → kind < 2 ^ 16 → split (record_of kind contents) ≡ whole kind contents []
split_last kind contents h l = ap split (sym (append-nil (record_of kind contents))) ∙ split_record kind contents [] h l

module _ (accepted circuit : List ℕ) (short : length circuit < 2 ^ 32) where
  pub replies_shape :
      (kind : ℕ) (region table : List ℕ) → member kind accepted ≡ true → kind < 2 ^ 16 → length region < 2 ^ 32 → length table < 2 ^ 32
      → tables_of accepted (record_of circuit_kind circuit ++ record_of region_kind region ++ record_of kind table) ≡ some (replies circuit region kind table)
  unfolding tables_of first_of second_of third_of
  replies_shape kind region table taken small h l =
      ap (first_of accepted)
      (ap split (append_assoc (record_of circuit_kind circuit) (record_of region_kind region) (record_of kind table))
      ∙ split_record circuit_kind circuit (record_of region_kind region ++ record_of kind table) short (omega arith))
      ∙ ap (second_of accepted circuit) (split_record region_kind region (record_of kind table) h (omega arith))
      ∙ ap (third_of accepted circuit region) (split_last kind table l small)
      ∙ rw taken

  pub attacks_shape :
      (table : List ℕ) → length table < 2 ^ 32
      → tables_of accepted (record_of circuit_kind circuit ++ record_of attack_kind table) ≡ some (attacks circuit table)
  unfolding tables_of first_of second_of
  attacks_shape table l =
      ap (first_of accepted) (split_record circuit_kind circuit (record_of attack_kind table) short (omega arith))
      ∙ ap (second_of accepted circuit) (split_last attack_kind table l (omega arith))
