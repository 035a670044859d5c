-- `solver::rooms::solve_within` meets its contract: before the first look nothing is kept.
use mathlib.Core.Path.{refl}
use Rattle.below.proofs.Laws.Filled.{replicate_table}
use Rattle.keeping.specs.declared.rank_list.KeptControl.{KeptControl}
use Rattle.solver.specs.declared.planes.Slot.{Slot}
use Rattle.solver.proofs.Laws.Kept.{kept_start}
use Rattle.solver.proofs.rooms.solve_within.Goals as goal

pub solve_in-requires : goal.solve_in-requires
solve_in-requires g c = λ set. kept_start c.args.net.now set _ _ _ _ _ c.requires.sized (replicate_table {A = KeptControl} _ _) refl refl
    (replicate_table {A = Slot} _ _) c.requires.enough c.requires.some
