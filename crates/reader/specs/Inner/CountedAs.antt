-- What the code answers of a circuit whose inputs are counted (01, "The numbers", 9). Assumes nothing.
use Rattle.std.specs.Prelude.{cond, Result, Ok, Err}
use Rattle.circuit.specs.Circuit.{too_many}
use Rattle.circuit.specs.Limits.{base}
use Rattle.circuit.specs.Stored.{meant}
use Rattle.circuit.specs.declared.Circuit.{Circuit as Value}
use Rattle.circuit.specs.declared.numbers.Fault.TheVariants.{TooManyInputs}
use Rattle.circuit.specs.declared.numbers.Refusal.{Refusal}

-- too many: refused with 9 at 0; else taken as it is
unfoldable pub counted_as : Value → Result Value Refusal
counted_as v = cond (too_many base (meant v)) (Err (record { fault = TooManyInputs; place = 0 })) (Ok v)
