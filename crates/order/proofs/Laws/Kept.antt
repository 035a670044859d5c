-- What steps keep one after the other. Assumes nothing.
use mathlib.Core.Path.{◌∙◌}
use Rattle.order.specs.declared.graph.Gates.{Gates}
use Rattle.order.specs.Inner.Kept.{Kept}

pub kept_on : {a b c : Gates} → Kept a b → Kept b c → Kept a c
kept_on k l = record { uses = l.uses ∙ k.uses; marks = l.marks ∙ k.marks; order = l.order ∙ k.order; count = l.count ∙ k.count }
