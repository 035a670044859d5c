-- The circuit record of a certificate (01, "The certificate": it is handed back as that part of the lent certificate): the contents of
-- the first record where it is whole and of kind 1, else nothing. Assumes nothing.
use Rattle.std.specs.Prelude.{ℕ, cond, List, [], eqb}
use Rattle.records.specs.Record.{Split, whole, cut, split, circuit_kind}

unfoldable pub circuit_contents : Split → List ℕ
circuit_contents cut = []
circuit_contents (whole kind contents rest) = cond (eqb kind circuit_kind) contents []

unfoldable pub circuit_record : (certificate : List ℕ) → List ℕ
circuit_record certificate = circuit_contents (split certificate)
