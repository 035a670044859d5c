-- `checker::check_net` meets its contract: the shape names the tables as parts of the certificate, and they are judged. Assumes nothing.
use Rattle.std.proofs.Common.{◌≡◌, ◌∙◌, sym, ap, not, Err, Some, Option, List, ℕ}
use Rattle.std.proofs.lemmas.Result.{err_from_is_err_and}
use Rattle.std.specs.Option.{ok_or}
use Rattle.std.specs.Str.{bytes_eq}
use Rattle.circuit.specs.Answer.{outcome_of}
use Rattle.records.specs.CircuitRecord.{circuit_record}
use Rattle.records.specs.Shape.{shape_of}
use Rattle.records.specs.Tables.{accepted_kinds, tables_of}
use Rattle.records.specs.declared.tables.Shape.{Shape}
use Rattle.checker.specs.Answer.{checked_outcome, starts_in}
use Rattle.checker.proofs.Laws.Answer.{refused_at_zero}
use Rattle.checker.proofs.Laws.Shaped.{misshapen, same_record, other_record, differs, replies_told, attacks_told}
use Rattle.checker.proofs.check_net.Goals as goal
use Rattle.checker.proofs.check_net.Goals.{In_ok-shape, After-ne, Else-ne}

pub returns-in_err-shape : goal.returns-in_err-shape
unfolding checked_outcome outcome_of
returns-in_err-shape c =
    let p = err_from_is_err_and c.from_residual.result c.from_residual.ensures.1 in
    let none = c.in_err-shape.ensures.ok_part in
    let given : Err c.in_err-shape.field-0.0 ≡ Err c.refused.result =
    c.in_err-shape.ensures.value ∙ ap (λ (o : Option Shape). ok_or o c.refused.result) none in
    let same : c.in_err-shape.field-0.0 ≡ c.refused.result = cc in
    rw (p.1, p.2)
    (refused_at_zero _ _ (same ∙ c.refused.ensures)
    ∙ misshapen c.args.file.now c.args.certificate.now c.args.net c.requires (sym none ∙ c.shape_of.ensures))

-- the shape, and whether the circuit record is the file
shaped : (c : goal.In_ok-shape) → Some c.in_ok-shape.shape ≡ shape_of (tables_of accepted_kinds c.args.certificate.now)
shaped c = sym c.in_ok-shape.ensures.ok_part ∙ c.shape_of.ensures

differ : (c : goal.After-ne) → c.ne.result ≡ not (bytes_eq (circuit_record c.args.certificate.now) c.args.file.now)
differ c = c.ne.ensures ∙ ap (λ (l : List ℕ). not (bytes_eq l c.args.file.now)) c.circuit_record.ensures

pub returns-then-ne : goal.returns-then-ne
unfolding checked_outcome outcome_of
returns-then-ne c =
    let other = other_record c.args.file.now c.args.certificate.now c.args.net c.requires _ (differ (goal.at.returns-then-ne c).After-ne) c.if-ne.true in
    refused_at_zero _ _ c.refused-then-ne.ensures
    ∙ differs c.args.file.now c.args.certificate.now c.args.net c.requires c.in_ok-shape.shape (shaped (goal.at.returns-then-ne c).In_ok-shape) other

same : (c : goal.Else-ne) → circuit_record c.args.certificate.now ≡ c.args.file.now
same c = same_record c.args.file.now c.args.certificate.now c.args.net c.requires _ (differ (goal.at.Else-ne c).After-ne) c.if-ne.false

pub returns-in_err-check-in-Replies : goal.returns-in_err-check-in-Replies
unfolding checked_outcome outcome_of
returns-in_err-check-in-Replies c =
    let w = goal.at.returns-in_err-check-in-Replies c in
    let p = err_from_is_err_and c.from_residual-in_err-check-in-Replies.result c.from_residual-in_err-check-in-Replies.ensures.1 in
    rw (p.1, p.2)
    (replies_told c.args.file.now c.args.certificate.now c.args.net c.requires (same w.Else-ne) c.in-Replies.circuit c.in-Replies.table
    c.in-Replies.region c.in-Replies.kind (ap Some (sym c.in-Replies.is) ∙ shaped w.In_ok-shape) _ _ c.bytes_of.ensures c.bytes_of-in-Replies.ensures _
    c.in_err-check-in-Replies.ensures)

pub returns-in_ok-check-in-Replies : goal.returns-in_ok-check-in-Replies
unfolding checked_outcome outcome_of starts_in
returns-in_ok-check-in-Replies c =
    let w = goal.at.returns-in_ok-check-in-Replies c in
    replies_told c.args.file.now c.args.certificate.now c.args.net c.requires (same w.Else-ne) c.in-Replies.circuit c.in-Replies.table
    c.in-Replies.region c.in-Replies.kind (ap Some (sym c.in-Replies.is) ∙ shaped w.In_ok-shape) _ _ c.bytes_of.ensures c.bytes_of-in-Replies.ensures _
    c.in_ok-check-in-Replies.ensures

pub returns-in_err-check-in-Attacks : goal.returns-in_err-check-in-Attacks
unfolding checked_outcome outcome_of
returns-in_err-check-in-Attacks c =
    let w = goal.at.returns-in_err-check-in-Attacks c in
    let p = err_from_is_err_and c.from_residual-in_err-check-in-Attacks.result c.from_residual-in_err-check-in-Attacks.ensures.1 in
    rw (p.1, p.2)
    (attacks_told c.args.file.now c.args.certificate.now c.args.net c.requires (same w.Else-ne) c.in-Attacks.circuit c.in-Attacks.table
    (ap Some (sym c.in-Attacks.is) ∙ shaped w.In_ok-shape) _ c.bytes_of-in-Attacks.ensures _ c.in_err-check-in-Attacks.ensures)

pub returns-in_ok-check-in-Attacks : goal.returns-in_ok-check-in-Attacks
unfolding checked_outcome outcome_of starts_in
returns-in_ok-check-in-Attacks c =
    let w = goal.at.returns-in_ok-check-in-Attacks c in
    attacks_told c.args.file.now c.args.certificate.now c.args.net c.requires (same w.Else-ne) c.in-Attacks.circuit c.in-Attacks.table
    (ap Some (sym c.in-Attacks.is) ∙ shaped w.In_ok-shape) _ c.bytes_of-in-Attacks.ensures _ c.in_ok-check-in-Attacks.ensures
