-- What the exported functions answer (01, "The numbers"): an outcome as plain numbers. Number 0 says that nothing was refused; after a
-- refusal all but number and place is 0. Assumes nothing.
use Rattle.std.specs.Prelude.{ℕ, cond, false, eqb, length}
use Rattle.checker.specs.Answer.{Starts, of_replies, of_attacks}
use Rattle.circuit.specs.Circuit.{Circuit, latch_count, uncontrollable_count, controllable_count}
use Rattle.circuit.specs.Outcome.{Outcome, taken, refused}
use Rattle.records.specs.Record.{Split, whole, cut, circuit_kind, attack_kind, head_length}
use Rattle.step.specs.declared.Stepped.{Stepped}
use Rattle.writer.specs.Answer.{Verdict}
use Rattle.capi.specs.declared.CertifyAnswer.{CertifyAnswer}
use Rattle.capi.specs.declared.CheckAnswer.{CheckAnswer}
use Rattle.capi.specs.declared.Part.{Part}
use Rattle.capi.specs.declared.PrintAnswer.{PrintAnswer}
use Rattle.capi.specs.declared.ReadAnswer.{ReadAnswer}
use Rattle.capi.specs.declared.StepAnswer.{StepAnswer}

unfoldable pub read_answer : Outcome Circuit → ReadAnswer
read_answer (taken c) = record { number = 0; place = 0; latches = latch_count c; readings = uncontrollable_count c; controls = controllable_count c }
read_answer (refused number place) = record { number = number; place = place; latches = 0; readings = 0; controls = 0 }

unfoldable pub step_answer : Outcome Stepped → StepAnswer
step_answer (taken s) = record { number = 0; place = 0; error = s.error; next = s.next }
step_answer (refused number place) = record { number = number; place = place; error = false; next = 0 }

unfoldable pub certify_answer : Outcome Verdict → CertifyAnswer
certify_answer (taken v) = record { number = 0; place = 0; realizable = v.realizable; bytes = v.count }
certify_answer (refused number place) = record { number = number; place = place; realizable = false; bytes = 0 }

-- the kind is that of the record of replies or attacks
unfoldable pub check_answer : Outcome Starts → CheckAnswer
check_answer (taken (of_replies region table kind L U C)) =
    record { number = 0; place = 0; kind = kind; region = region; table = table; latches = L; readings = U; controls = C }
check_answer (taken (of_attacks table L U)) =
    record { number = 0; place = 0; kind = attack_kind; region = 0; table = table; latches = L; readings = U; controls = 0 }
check_answer (refused number place) =
    record { number = number; place = place; kind = 0; region = 0; table = 0; latches = 0; readings = 0; controls = 0 }

unfoldable pub print_answer : Outcome ℕ → PrintAnswer
print_answer (taken n) = record { number = 0; place = 0; bytes = n }
print_answer (refused number place) = record { number = number; place = place; bytes = 0 }

-- where the contents of the first record stand, given that it is the circuit record
unfoldable pub circuit_part : Split → Part
circuit_part cut = record { start = 0; bytes = 0 }
circuit_part (whole kind contents rest) =
    cond (eqb kind circuit_kind) (record { start = head_length; bytes = length contents }) (record { start = 0; bytes = 0 })
