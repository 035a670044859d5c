-- Where no kind is retired, the check goes on. Assumes nothing.
use mathlib.Core.List.{[]}
use mathlib.Core.Path.{◌≡◌, refl}
use Rattle.below.specs.Among.{among, member}
use Rattle.circuit.specs.Outcome.{Outcome, ◌>>◌, refuse_if}
use Rattle.records.specs.Tables.{Tables, replies, attacks}
use Rattle.checker.specs.Check.{or_retired}

pub none_retired : (t : Tables) (on : Outcome Tables) → (or_retired [] t >> on) ≡ on
unfolding or_retired member among refuse_if
none_retired (replies circuit region kind table) on = refl
none_retired (attacks circuit table) on = refl
