-- What a check answers, as plain numbers: each case by its own. Assumes nothing.
use Rattle.std.proofs.Common.{rules}
use Rattle.checker.specs.Answer.{checked_outcome, starts_in}
use Rattle.circuit.specs.Answer.{outcome_of}
use Rattle.capi.specs.Plain.{check_answer}
use Rattle.capi.proofs.plain.CheckAnswerFromResultPassedRefusal.from.Goals as goal

pub returns-in-Ok-Replies : goal.returns-in-Ok-Replies
unfolding check_answer checked_outcome outcome_of starts_in
returns-in-Ok-Replies c = search rules

pub returns-in-Ok-Attacks : goal.returns-in-Ok-Attacks
unfolding check_answer checked_outcome outcome_of starts_in
returns-in-Ok-Attacks c = search rules

pub returns-in-Err : goal.returns-in-Err
unfolding check_answer checked_outcome outcome_of
returns-in-Err c = search rules
