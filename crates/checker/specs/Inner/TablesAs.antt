-- What is answered of tables that stand behind a circuit record: 13 to 15 of them, for the circuit of a net. Assumes nothing.
use Rattle.std.specs.Prelude.{ℕ, List, ◌≡◌}
use Rattle.circuit.specs.Circuit.{Circuit}
use Rattle.circuit.specs.Outcome.{Outcome, taken, ◌>>◌}
use Rattle.net.specs.NetOf.{net_of}
use Rattle.records.specs.Tables.{replies, attacks}
use Rattle.checker.specs.Check.{tables_checked}

-- of a region and a reply table, and of an attack table
abbrev pub RepliesAs : (net region : List ℕ) (kind : ℕ) (table : List ℕ) (answer : Outcome (Unit {0})) → Type 0
RepliesAs net region kind table answer =
    (c : Circuit) → net ≡ net_of c → (circuit : List ℕ) → answer ≡ (tables_checked c (replies circuit region kind table) >> taken tt)

abbrev pub AttacksAs : (net table : List ℕ) (answer : Outcome (Unit {0})) → Type 0
AttacksAs net table answer =
    (c : Circuit) → net ≡ net_of c → (circuit : List ℕ) → answer ≡ (tables_checked c (attacks circuit table) >> taken tt)
