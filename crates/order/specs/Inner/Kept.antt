-- What every step keeps of the lists that it is lent: they are the same lists, so many long. Assumes nothing.
use Rattle.std.specs.Prelude.{ℕ, ◌≡◌, length}
use Rattle.order.specs.declared.graph.Gates.{Gates}

abbrev pub gate_count : Gates → ℕ
gate_count g = length g.marks.now

pub record Kept (before after : Gates) : Type 0 where
  pub uses : after.uses.now ≡ before.uses.now
  pub marks : after.marks.ghost_name ≡ before.marks.ghost_name
  pub order : after.order.ghost_name ≡ before.order.ghost_name
  pub count : gate_count after ≡ gate_count before
