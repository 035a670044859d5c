-- `solver::look::Search::look_on` meets its contract: the search behind the control kept finds none, or one that is kept.
use Prim.Native.Nat.{◌+◌, ◌*◌, ◌≤◌}
use native.Mathlib.Omega.{arith}
use Rattle.keeping.specs.Unranked.{set_of}
use Rattle.solver.proofs.Laws.Kept.{look_none, look-later, look_found, look-kept, kept_put}
use Rattle.solver.proofs.Laws.Moves.{moves_fit}
use Rattle.solver.proofs.look.Search.look_on.Goals as goal
use Rattle.solver.proofs.look.Search.look_on.Goals.{After-controls-n}

fits : (c : After-controls-n) → c.args.place * c.controls-n.result + c.controls-n.result ≤ 8388608
fits c = let s = c.args.self.now in
    moves_fit s.net.now s.all_kept.sized c.args.place c.controls-n.result c.requires.place_bound c.controls-n.ensures.value

pub overflow_mul-first : goal.overflow_mul-first
overflow_mul-first c = omega (arith, fits (goal.at.overflow_mul-first c).After-controls-n)

pub overflow_add-from : goal.overflow_add-from
overflow_add-from c = let s = c.args.self.now in
    omega (
      arith,
      fits (goal.at.overflow_add-from c).After-controls-n,
      (s.all_kept.at c.args.place c.requires.place_bound).few,
      c.controls-n.ensures.value,
      c.from.ensures,
    )

pub overflow_add-first : goal.overflow_add-first
overflow_add-first c = omega (arith, fits (goal.at.overflow_add-first c).After-controls-n)

pub keeping_from-requires-clause-end_bound : goal.keeping_from-requires-clause-end_bound
keeping_from-requires-clause-end_bound c = fits (goal.at.keeping_from-requires-clause-end_bound c).After-controls-n

pub returns-in_err-found-clause-control : goal.returns-in_err-found-clause-control
returns-in_err-found-clause-control c = let s = c.args.self.now in
    let found = rw c.from.ensures at c.in_err-found.ensures.found in
    rw c.from_residual.ensures
    (look_none s.net.now (set_of s.set) s.kept.now s.slots.now s.all_kept c.args.place c.controls-n.result c.requires.place_bound c.controls-n.ensures.value
    c.requires.behind found)

pub overflow_sub-control : goal.overflow_sub-control
overflow_sub-control c = let s = c.args.self.now in
    let found = rw c.from.ensures at c.in_ok-found.ensures.found in
    look-later s.net.now (set_of s.set) s.kept.now s.slots.now s.all_kept c.args.place c.controls-n.result c.requires.place_bound c.controls-n.ensures.value
    c.requires.behind _ found

pub invariant_of-self : goal.invariant_of-self
invariant_of-self c = let s = c.args.self.now in
    let found = rw c.from.ensures at c.in_ok-found.ensures.found in
    let same = c.in_ok-found.ensures.same in
    let t = c.keeping_from.new.self in record {
      all_kept = kept_put t.net.now (set_of t.set) t.kept.now t.slots.now t.all_kept c.args.place _ (rw same.0 c.requires.place_bound)
          (rw (same.0, same.1) (look-kept s.net.now (set_of s.set) s.kept.now s.slots.now s.all_kept c.args.place c.controls-n.result c.requires.place_bound
          c.controls-n.ensures.value c.requires.behind _ found));
    }

pub returns-clause-control : goal.returns-clause-control
returns-clause-control c = let s = c.args.self.now in
    let found = rw c.from.ensures at c.in_ok-found.ensures.found in
    look_found s.net.now (set_of s.set) s.kept.now s.slots.now s.all_kept c.args.place c.controls-n.result c.requires.place_bound c.controls-n.ensures.value
    c.requires.behind _ found
