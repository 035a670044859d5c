-- The promise of a check decides its answer: answers with the same outcome are the same. Assumes nothing.
use mathlib.Core.Path.{◌≡◌, sym, ap, ◌∙◌}
use Rattle.std.specs.Prelude.{Result, Ok, Err}
use Rattle.circuit.specs.Answer.{outcome_of}
use Rattle.circuit.specs.Fault.{number_of}
use Rattle.circuit.specs.Outcome.{refused}
use Rattle.circuit.specs.declared.numbers.Fault.{Fault}
use Rattle.circuit.specs.declared.numbers.Refusal.{Refusal}
use Rattle.circuit.proofs.Laws.Fault.{same_number}
use Rattle.records.specs.Kinds.{reply_kind_number, stored_as}
use Rattle.records.specs.declared.kinds.ReplyKind.{ReplyKind}
use Rattle.records.proofs.Laws.Kinds.{stored_as_number}
use Rattle.checker.specs.Answer.{starts_in, checked_outcome}
use Rattle.checker.specs.declared.Passed.{Passed}
use Rattle.checker.specs.declared.Passed.TheVariants.{Replies, Attacks}

same_kind : (j k : ReplyKind) → reply_kind_number j ≡ reply_kind_number k → j ≡ k
same_kind j k e = sym (stored_as_number j) ∙ ap stored_as e ∙ stored_as_number k

pub same_outcome_same_answer : (a b : Result Passed Refusal) → checked_outcome a ≡ checked_outcome b → a ≡ b
unfolding checked_outcome starts_in outcome_of
same_outcome_same_answer (Ok (Replies region table kind counts)) (Ok (Replies region₂ table₂ kind₂ counts₂)) e =
    let first : region ≡ region₂ = cc in
    let second : table ≡ table₂ = cc in
    let kinds : kind ≡ kind₂ = same_kind kind kind₂ cc in
    let latches : counts.latches ≡ counts₂.latches = cc in
    let readings : counts.readings ≡ counts₂.readings = cc in
    let controls : counts.controls ≡ counts₂.controls = cc in
    λ i. Ok (Replies (first i) (second i) (kinds i) (record { latches = latches i; readings = readings i; controls = controls i }))
same_outcome_same_answer (Ok (Replies region table kind counts)) (Ok (Attacks table₂ L₂ U₂)) e = cc
same_outcome_same_answer (Ok (Replies region table kind counts)) (Err r) e = cc
same_outcome_same_answer (Ok (Attacks table L U)) (Ok (Replies region₂ table₂ kind₂ counts₂)) e = cc
same_outcome_same_answer (Ok (Attacks table L U)) (Ok (Attacks table₂ L₂ U₂)) e = cc
same_outcome_same_answer (Ok (Attacks table L U)) (Err r) e = cc
same_outcome_same_answer (Err r) (Ok (Replies region table kind counts)) e = cc
same_outcome_same_answer (Err r) (Ok (Attacks table L U)) e = cc
same_outcome_same_answer (Err r) (Err q) e =
    let fault : r.fault ≡ q.fault = same_number r.fault q.fault cc in
    let place : r.place ≡ q.place = cc in
    λ i. Err (record { fault = fault i; place = place i })

-- a refusal at place 0
pub refused_at_zero : {A : Type 0} (f : Fault) (r : Refusal) → r ≡ record { fault = f; place = 0 } → outcome_of {A = A} (Err r) ≡ refused (number_of f) 0
unfolding outcome_of
refused_at_zero {A} f r e = λ i. refused (number_of (e i).fault) (e i).place
