-- What `region::region_of` keeps from turn to turn: the region of the states passed.
use mathlib.Core.Path.{◌≡◌}
use Rattle.region.specs.RegionTable.{region_table}
use Rattle.solver.specs.Over.{rank_zero}
use Rattle.region.proofs.region_of.Given as goal

abbrev pub invariant-loop-s : goal.invariant-loop-s
invariant-loop-s l = l.bytes ≡ region_table (rank_zero l.ranks) l.s
