-- The two shapes of a certificate (01, "The certificate"; 02, T-07): kinds 1, 2 and a reply record of kind 3 or 5, or kinds 1, 4, back to
-- back, and nothing follows. The kinds of reply record that are accepted are an argument. Assumes nothing.
use Rattle.std.specs.Prelude.{ℕ, cond, ◌&&◌, List, [], ◌∷◌, eqb, length}
use Rattle.std.proofs.Math.Option.{Option, none, some}
use Rattle.below.specs.Among.{member}
use Rattle.records.specs.Record.{Split, whole, cut, split, circuit_kind, region_kind, reply_kind, attack_kind, packed_kind}

-- the kinds of reply record that the check takes
abbrev pub accepted_kinds : List ℕ
accepted_kinds = reply_kind ∷ packed_kind ∷ []

pub data Tables : Type 0 where
  replies : (circuit region : List ℕ) (kind : ℕ) (table : List ℕ) → Tables
  attacks : (circuit table : List ℕ) → Tables

-- the third record
unfoldable pub third_of : List ℕ → (circuit region : List ℕ) → Split → Option Tables
third_of accepted circuit region cut = none
third_of accepted circuit region (whole kind table rest) =
    cond (member kind accepted && eqb (length rest) 0) (some (replies circuit region kind table)) none

-- the second record: a region and what follows it, or an attack table at the end
unfoldable pub second_of : List ℕ → (circuit : List ℕ) → Split → Option Tables
second_of accepted circuit cut = none
second_of accepted circuit (whole kind table rest) =
    cond (eqb kind region_kind) (third_of accepted circuit table (split rest))
    (cond (eqb kind attack_kind && eqb (length rest) 0) (some (attacks circuit table)) none)

unfoldable pub first_of : List ℕ → Split → Option Tables
first_of accepted cut = none
first_of accepted (whole kind circuit rest) = cond (eqb kind circuit_kind) (second_of accepted circuit (split rest)) none

unfoldable pub tables_of : (accepted : List ℕ) → (certificate : List ℕ) → Option Tables
tables_of accepted certificate = first_of accepted (split certificate)

unfoldable pub circuit_part : Tables → List ℕ
circuit_part (replies circuit region kind table) = circuit
circuit_part (attacks circuit table) = circuit
