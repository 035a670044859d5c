-- `capi::krastopi_read` meets its contract: the circuit that was read is the one that the file means. Assumes nothing.
use Rattle.std.proofs.Common.{ap, ◌∙◌}
use Rattle.capi.specs.Plain.{read_answer}
use Rattle.capi.proofs.Laws.Meant.{read_means}
use Rattle.capi.proofs.krastopi_read.Goals as goal

pub returns : goal.returns
returns c = c.into.ensures ∙ ap read_answer (read_means _ _ c.read.ensures)
