-- A fault is known by its number. Assumes nothing.
use Prim.Native.Nat.{ℕ}
use mathlib.Core.Path.{◌≡◌, refl, sym, ap, ◌∙◌}
use Rattle.std.specs.Prelude.{cond, eqb}
use Rattle.circuit.specs.declared.numbers.Fault.{Fault}
use Rattle.circuit.specs.declared.numbers.Fault.TheVariants.{
  FileTooLong,
  BadHeader,
  HeaderLimit,
  BadLine,
  BadLiteral,
  DefinedTwice,
  NotDefined,
  BadSymbol,
  TooManyInputs,
  NoRoom,
  BadShape,
  OtherCircuit,
  BadTable,
  BadReset,
  BrokenStep,
  GateCircle,
}
use Rattle.circuit.specs.Fault.{number_of}

-- the fault of a number
fault_of : ℕ → Fault
fault_of n =
    cond (eqb n 1) FileTooLong (
    cond (eqb n 2) BadHeader (
    cond (eqb n 3) HeaderLimit (
    cond (eqb n 4) BadLine (
    cond (eqb n 5) BadLiteral (
    cond (eqb n 6) DefinedTwice (
    cond (eqb n 7) NotDefined (
    cond (eqb n 8) BadSymbol (
    cond (eqb n 9) TooManyInputs (
    cond (eqb n 10) NoRoom (
    cond (eqb n 11) BadShape (
    cond (eqb n 12) OtherCircuit (
    cond (eqb n 13) BadTable (
    cond (eqb n 14) BadReset (
    cond (eqb n 15) BrokenStep GateCircle))))))))))))))

known : (f : Fault) → fault_of (number_of f) ≡ f
unfolding fault_of
known FileTooLong = refl
known BadHeader = refl
known HeaderLimit = refl
known BadLine = refl
known BadLiteral = refl
known DefinedTwice = refl
known NotDefined = refl
known BadSymbol = refl
known TooManyInputs = refl
known NoRoom = refl
known BadShape = refl
known OtherCircuit = refl
known BadTable = refl
known BadReset = refl
known BrokenStep = refl
known GateCircle = refl

pub same_number : (f g : Fault) → number_of f ≡ number_of g → f ≡ g
same_number f g e = sym (known f) ∙ ap fault_of e ∙ known g
