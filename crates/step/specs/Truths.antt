-- The valuation that bytes hold, one bit for each variable, eight to the byte: 1 is true; a bit that isn't there is false. Assumes nothing.
use Rattle.std.specs.Prelude.{ℕ, List, eqb}
use Rattle.bits.specs.ByteBit.{byte_bit}
use Rattle.step.specs.Value.{Valuation}

unfoldable pub truths : List ℕ → Valuation
truths bytes = λ v. eqb (byte_bit bytes v) 1
