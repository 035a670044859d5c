-- `capi::krastopi_circuit_record` meets its contract: the first record, by its place, is what `split` gives. Assumes nothing.
use Rattle.std.proofs.Common.{sym, ◌∙◌}
use Rattle.records.proofs.Laws.RecordAt.{found_record}
use Rattle.capi.proofs.Laws.Part.{nothing, no_part, part_found, part_of_other}
use Rattle.capi.proofs.krastopi_circuit_record.Goals as goal
use Rattle.capi.proofs.krastopi_circuit_record.Goals.{in_default-via-in-Some+else-kind-number, in_default-via-in_default}

pub overflow_sub-length : goal.overflow_sub-length
overflow_sub-length c = (found_record _ 0 _ c.in-Some.ensures).ordered

pub returns-in-Some : goal.returns-in-Some
returns-in-Some c = part_found _ _ c.in-Some.ensures (c.if-kind-number.true ∙ c.number.ensures)

pub returns-in_default : goal.returns-in_default
returns-in_default c = nothing c.default.result c.default.ensures ∙ elim c.in_default.branch [
  | in_default-via-in-Some+else-kind-number w ↦ part_of_other _ _ w.in-Some.ensures (λ e. w.if-kind-number.false (e ∙ sym w.number.ensures))
  | in_default-via-in_default w ↦ no_part _ (sym w.in_default.is ∙ c.record_at.ensures)
]
