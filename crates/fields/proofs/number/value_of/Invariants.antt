-- What `fields::number::value_of` keeps from turn to turn: the value of the digits passed. Assumes nothing.
use Rattle.fields.proofs.Laws.Numerals.{Said}
use Rattle.fields.proofs.number.value_of.Given as goal

abbrev pub invariant-loop-digit : goal.invariant-loop-digit
invariant-loop-digit l = Said l.digits l.digit-index l.value
