-- What `keeping::rank_list::Unranked::keeping_lane` keeps from turn to turn: none of the lanes passed keeps.
use Prim.Native.Nat.{min}
use Rattle.below.proofs.Laws.LeastFrom.{Searched}
use Rattle.keeping.specs.Inner.InLane.{keeps_in}
use Rattle.keeping.specs.Unranked.{set_of}
use Rattle.keeping.proofs.rank_list.Unranked.keeping_lane.Given as goal

abbrev pub invariant-loop-lane : goal.invariant-loop-lane
invariant-loop-lane l = Searched (keeps_in (set_of l.self) l.error l.next) l.from l.end (min l.lane l.end)
