-- `checker::check` meets its contract: reading, then the check for the net of the circuit that was read. Assumes nothing.
use Rattle.std.proofs.Common.{◌∙◌, sym, rules}
use Rattle.std.proofs.lemmas.Result.{err_from_is_err_and}
use Rattle.circuit.specs.Answer.{outcome_of}
use Rattle.circuit.specs.Stored.{meant}
use Rattle.file.proofs.Laws.Read.{Means, taken_means, refused_means}
use Rattle.net.proofs.Laws.InOrder.{Room}
use Rattle.net.proofs.Laws.Lent.{meant_room}
use Rattle.checker.specs.Answer.{checked_outcome}
use Rattle.checker.proofs.Laws.Read.{read_net, read_sized}
use Rattle.checker.proofs.Laws.Stages.{file_answered}
use Rattle.checker.proofs.check.Goals as goal
use Rattle.checker.proofs.check.Goals.{After-as_slice}

pub returns-in_err-read : goal.returns-in_err-read
unfolding checked_outcome outcome_of
returns-in_err-read c =
    let p = err_from_is_err_and c.from_residual.result c.from_residual.ensures.1 in
    let number = refused_means c.args.file.now c.read.result c.read.ensures _ c.in_err-read.was in
    rw (p.1, p.2) (sym (file_answered c.args.file.now c.args.certificate.now _ _ number))

-- what was read, and its room
means : (c : goal.After-as_slice) → Means c.args.file.now c.in_ok-read.field-0
means c = taken_means c.args.file.now c.read.result c.read.ensures c.in_ok-read.field-0 c.in_ok-read.was

room : (c : goal.After-as_slice) → Room (meant c.in_ok-read.field-0)
room c = meant_room c.in_ok-read.field-0 (search rules) (search rules)

pub new-requires : goal.new-requires
new-requires c =
    let w = (goal.at.new-requires c).After-as_slice in
    read_sized c.args.file.now c.in_ok-read.field-0 (means w) (room w) c.make-made.result c.make-made.ensures c.as_slice.result.now c.as_slice.ensures

pub check_net-requires : goal.check_net-requires
check_net-requires c =
    let w = (goal.at.check_net-requires c).After-as_slice in
    read_net c.args.file.now c.in_ok-read.field-0 (means w) (room w) c.make-made.result c.make-made.ensures c.new.result.numbers.now
    (c.new.ensures ∙ c.as_slice.ensures)
