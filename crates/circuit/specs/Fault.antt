-- The number of each fault (01, "The numbers"; 02, T-01: 16). Assumes nothing.
use Rattle.std.specs.Prelude.{ℕ}
use Rattle.circuit.specs.declared.numbers.Fault.{Fault}
use Rattle.circuit.specs.declared.numbers.Fault.TheVariants.{
  FileTooLong,
  BadHeader,
  HeaderLimit,
  BadLine,
  BadLiteral,
  DefinedTwice,
  NotDefined,
  BadSymbol,
  TooManyInputs,
  NoRoom,
  BadShape,
  OtherCircuit,
  BadTable,
  BadReset,
  BrokenStep,
  GateCircle,
}

abbrev pub number_of : Fault → ℕ
number_of FileTooLong = 1
number_of BadHeader = 2
number_of HeaderLimit = 3
number_of BadLine = 4
number_of BadLiteral = 5
number_of DefinedTwice = 6
number_of NotDefined = 7
number_of BadSymbol = 8
number_of TooManyInputs = 9
number_of NoRoom = 10
number_of BadShape = 11
number_of OtherCircuit = 12
number_of BadTable = 13
number_of BadReset = 14
number_of BrokenStep = 15
number_of GateCircle = 16
