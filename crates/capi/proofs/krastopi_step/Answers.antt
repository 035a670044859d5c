-- `capi::krastopi_step` meets its contract: the step is one of the circuit that the file means. Assumes nothing.
use Rattle.std.proofs.Common.{rules, of_calls, ◌≡◌, ap, ◌∙◌}
use Rattle.std.specs.Prelude.{Result, Err, MatchResult, IsOkAnd}
use Rattle.circuit.specs.Circuit.{Circuit}
use Rattle.circuit.specs.Stored.{meant}
use Rattle.circuit.specs.declared.numbers.Refusal.{Refusal}
use Rattle.step.specs.Step.{step}
use Rattle.step.specs.declared.Stepped.{Stepped}
use Rattle.capi.specs.Plain.{step_answer}
use Rattle.capi.specs.Stepped.{file_stepped}
use Rattle.capi.proofs.Laws.Meant.{made_means}
use Rattle.capi.proofs.krastopi_step.Goals as goal

pub returns : goal.returns
unfolding file_stepped
returns c =
    let a = c.args in
    let made : MatchResult c.read.result (λ v. IsOkAnd c.map.result (λ (s : Stepped). s ≡ step (meant v) a.state a.reading a.control))
    (λ (e : Refusal). ◌≡◌ {A = Result Stepped Refusal} c.map.result (Err e)) = search (rules, of_calls) in
    c.into.ensures ∙ ap step_answer (made_means (λ (x : Circuit). step x a.state a.reading a.control) a.file.now _ _ c.read.ensures made)
