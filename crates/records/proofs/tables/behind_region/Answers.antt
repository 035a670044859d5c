-- `records::tables::behind_region` meets its contract: each test is one that `third_of` makes. Assumes nothing.
use Rattle.std.proofs.Common.{◌∙◌, ap, refl}
use Rattle.std.specs.Result.{result_ok}
use Rattle.records.proofs.Laws.Kinds.{reply_kind_known, reply_kind_unknown}
use Rattle.records.proofs.Laws.Shape.{no_third, third_other, third_is}
use Rattle.records.proofs.tables.behind_region.Goals as goal

pub returns-in_err-third : goal.returns-in_err-third
returns-in_err-third c = λ first second e f. c.from_residual.ensures ∙ no_third c.args.certificate.now c.args.region.end c.in_err-third.ensures first second

pub returns-in_err-kind : goal.returns-in_err-kind
returns-in_err-kind c = λ first second e f.
    let r = c.in_ok-third.third in
    c.from_residual-in_err-kind.ensures
    ∙ third_other c.args.certificate.now c.args.region.end r c.in_ok-third.ensures first second
    (reply_kind_unknown r.kind (c.in_err-kind.ensures.value ∙ ap result_ok c.try_from.ensures))

pub returns : goal.returns
returns c = λ first second e f.
    let r = c.in_ok-third.third in
    c.then_some.ensures
    ∙ third_is c.args.certificate.now c.args.region.end r c.in_ok-third.ensures first second c.in_ok-kind.kind
    (reply_kind_known r.kind _ (c.in_ok-kind.ensures.value ∙ ap result_ok c.try_from.ensures)) c.args.circuit c.args.region e f refl
