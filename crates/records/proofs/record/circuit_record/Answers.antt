-- `records::record::circuit_record` meets its contract: the first record, by its place, is what `split` gives. Assumes nothing.
use Rattle.std.proofs.Common.{◌∙◌, sym}
use Rattle.records.proofs.Laws.CircuitRecord.{no_first, first_circuit, first_of_other}
use Rattle.records.proofs.record.circuit_record.Goals as goal
use Rattle.records.proofs.record.circuit_record.Goals.{in_default-via-in-Some+else-first-number, in_default-via-in_default}

pub returns-in-Some : goal.returns-in-Some
returns-in-Some c =
    c.bytes_of.ensures ∙ first_circuit c.args.certificate.now c.in-Some.first c.in-Some.ensures (c.if-first-number.true ∙ c.number.ensures)

pub returns-in_default : goal.returns-in_default
returns-in_default c =
    elim c.in_default.branch [
      | in_default-via-in-Some+else-first-number w ↦ first_of_other c.args.certificate.now w.in-Some.first w.in-Some.ensures
          (λ e. w.if-first-number.false (e ∙ sym w.number.ensures))
      | in_default-via-in_default w ↦ no_first c.args.certificate.now w.in_default.ensures
    ]
