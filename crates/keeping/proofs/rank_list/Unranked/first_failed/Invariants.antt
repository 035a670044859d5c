-- What `keeping::rank_list::Unranked::first_failed` keeps from turn to turn: no place passed failed.
use Rattle.keeping.specs.Unranked.{set_of}
use Rattle.keeping.proofs.Laws.KeptControls.{NoneFailed}
use Rattle.keeping.proofs.rank_list.Unranked.first_failed.Given as goal

abbrev pub invariant-loop-place : goal.invariant-loop-place
invariant-loop-place l = NoneFailed l.kept (set_of l.self) l.from l.place
