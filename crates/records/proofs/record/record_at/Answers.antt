-- `records::record::record_at` meets its contract: each test is one of the two that `split` makes. Assumes nothing.
use Rattle.std.proofs.Common.{◌∙◌, drop, length-drop, length-take, ap, sym, arith, List, ℕ}
use Rattle.std.proofs.lemmas.Slice.{between_to_end}
use Rattle.records.specs.Record.{split}
use Rattle.records.specs.RecordAt.{record_at}
use Rattle.records.proofs.Laws.RecordAt.{headless, cut_short, there, length_of_bytes, kind_of_bytes}
use Rattle.records.proofs.record.record_at.Goals as goal

pub returns-in_err-get : goal.returns-in_err-get
returns-in_err-get c =
    let a = c.args in
    c.from_residual.ensures ∙ headless a.at (drop a.at a.bytes.now) (omega (arith, length-drop a.at a.bytes.now, c.in_err-get.ensures.lookup))

pub returns-in_default : goal.returns-in_default
returns-in_default c =
    let a = c.args in
    headless a.at (drop a.at a.bytes.now) (omega (arith, length-drop a.at a.bytes.now, c.in_ok-get.ensures.lookup))

pub returns-then-rest-length : goal.returns-then-rest-length
returns-then-rest-length c =
    let a = c.args in
    let p = c.in_ok-get.field-0.now in
    let head = c.in-len6-up.len_at_least in
    cut_short a.at p head c.from_le_bytes-length.result (c.from_le_bytes-length.ensures ∙ sym (length_of_bytes a.at p head))
    (omega (arith, length-take {A = ℕ}, length-drop {A = ℕ}))
    ∙ ap (λ (l : List ℕ). record_at a.at (split l)) (c.in_ok-get.ensures.lookup.0.2 ∙ between_to_end a.bytes.now a.at _ (omega arith))

pub returns : goal.returns
returns c =
    let a = c.args in
    let p = c.in_ok-get.field-0.now in
    let head = c.in-len6-up.len_at_least in
    there a.at p head c.from_le_bytes.result c.from_le_bytes-length.result (c.from_le_bytes.ensures ∙ sym (kind_of_bytes a.at p head))
    (c.from_le_bytes-length.ensures ∙ sym (length_of_bytes a.at p head))
    (omega (arith, length-take {A = ℕ}, length-drop {A = ℕ}))
    ∙ ap (λ (l : List ℕ). record_at a.at (split l)) (c.in_ok-get.ensures.lookup.0.2 ∙ between_to_end a.bytes.now a.at _ (omega arith))
