-- `records::tables::shape_of` meets its contract: the first record is tested as `first_of` does. Assumes nothing.
use Rattle.std.proofs.Common.{◌∙◌, sym}
use Rattle.records.specs.Tables.{tables_of}
use Rattle.records.proofs.Laws.RecordAt.{found_record}
use Rattle.records.proofs.Laws.Shape.{no_first, first_circuit, first_other}
use Rattle.records.proofs.tables.shape_of.Goals as goal

pub returns-in_err-first : goal.returns-in_err-first
unfolding tables_of
returns-in_err-first c = c.from_residual.ensures ∙ no_first c.args.certificate.now 0 c.in_err-first.ensures

pub returns-then-first-number : goal.returns-then-first-number
unfolding tables_of
returns-then-first-number c =
    first_other c.args.certificate.now 0 c.in_ok-first.first c.in_ok-first.ensures (λ e. c.if-first-number.true (e ∙ sym c.number.ensures))

pub returns : goal.returns
unfolding tables_of
returns c =
    let l = c.args.certificate.now in
    let first = c.in_ok-first.first in
    c.behind_circuit.ensures _ (found_record l 0 first c.in_ok-first.ensures).lies
    ∙ first_circuit l 0 first c.in_ok-first.ensures (c.if-first-number.false ∙ c.number.ensures)
