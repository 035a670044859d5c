-- The code's answer for the shape of a certificate (01, "The certificate"): where the contents of its records lie, and the kind of the
-- reply record. Assumes nothing.
use Rattle.std.specs.Prelude.{Option, Some, None}
use Rattle.std.proofs.Math.Option.{Option as Maybe, none, some}
use Rattle.records.specs.Kinds.{stored_as}
use Rattle.records.specs.RecordAt.{contents_at}
use Rattle.records.specs.Tables.{Tables, replies, attacks}
use Rattle.records.specs.declared.tables.Shape.{Shape}
use Rattle.records.specs.declared.tables.Shape.TheVariants.{Replies, Attacks}

unfoldable pub shape_of : Maybe Tables → Option Shape
shape_of none = None
shape_of (some (replies circuit region kind table)) =
    let first = contents_at 0 circuit in
    let second = contents_at first.end region in
    Some (Replies first second (contents_at second.end table) (stored_as kind))
shape_of (some (attacks circuit table)) =
    let first = contents_at 0 circuit in
    Some (Attacks first (contents_at first.end table))
