-- `records::tables::behind_circuit` meets its contract: each test is one that `second_of` makes. Assumes nothing.
use Rattle.std.proofs.Common.{◌≡◌, ◌∙◌, sym, ap, refl, Some, None}
use Rattle.std.specs.Result.{result_ok}
use Rattle.records.specs.Kinds.{kind_of}
use Rattle.records.specs.declared.kinds.Kind.TheVariants.{Region, Attacks}
use Rattle.records.proofs.Laws.Kinds.{kind_known, kind_unknown, another_kind}
use Rattle.records.proofs.Laws.RecordAt.{found_record}
use Rattle.records.proofs.Laws.Shape.{no_second, second_region, second_other, second_attacks}
use Rattle.records.proofs.tables.behind_circuit.Goals as goal
use Rattle.records.proofs.tables.behind_circuit.Goals.{In_ok-ok}

pub returns-in_err-second : goal.returns-in_err-second
returns-in_err-second c = λ first e. c.from_residual.ensures ∙ no_second c.args.certificate.now c.args.circuit.end c.in_err-second.ensures first

pub returns-in_err-ok : goal.returns-in_err-ok
returns-in_err-ok c = λ first e.
    let r = c.in_ok-second.second in
    let none : None ≡ result_ok (kind_of r.kind) = c.in_err-ok.ensures.value ∙ ap result_ok c.try_from.ensures in
    c.from_residual-in_err-ok.ensures
    ∙ second_other c.args.certificate.now c.args.circuit.end r c.in_ok-second.ensures first (kind_unknown r.kind none Region) (kind_unknown r.kind none Attacks)

-- the kind of the record there
known : (c : goal.In_ok-ok) → Some c.in_ok-ok.field-0 ≡ result_ok (kind_of c.in_ok-second.second.kind)
known c = c.in_ok-ok.ensures.value ∙ ap result_ok c.try_from.ensures

pub returns-in-Region : goal.returns-in-Region
returns-in-Region c = λ first e.
    let l = c.args.certificate.now in
    let r = c.in_ok-second.second in
    c.behind_region.ensures first _ e (found_record l c.args.circuit.end r c.in_ok-second.ensures).lies
    ∙ second_region l c.args.circuit.end r c.in_ok-second.ensures first
    (kind_known r.kind Region (ap Some (sym c.in-Region.is) ∙ known (goal.at.returns-in-Region c).In_ok-ok))

pub returns-in-Attacks : goal.returns-in-Attacks
returns-in-Attacks c = λ first e.
    let r = c.in_ok-second.second in
    c.then_some.ensures
    ∙ second_attacks c.args.certificate.now c.args.circuit.end r c.in_ok-second.ensures first
    (kind_known r.kind Attacks (ap Some (sym c.in-Attacks.is) ∙ known (goal.at.returns-in-Attacks c).In_ok-ok)) c.args.circuit e refl

pub returns-in_default : goal.returns-in_default
returns-in_default c = λ first e.
    let r = c.in_ok-second.second in
    let is = known (goal.at.returns-in_default c).In_ok-ok in
    second_other c.args.certificate.now c.args.circuit.end r c.in_ok-second.ensures first (another_kind r.kind _ Region is c.in_default.not-Region)
    (another_kind r.kind _ Attacks is c.in_default.not-Attacks)
