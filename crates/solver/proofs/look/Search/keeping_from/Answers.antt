-- `solver::look::Search::keeping_from` meets its contract: no move of a block passed keeps.
use native.Mathlib.Omega.{arith}
use Rattle.std.proofs.Common.{rules}
use Rattle.solver.proofs.Laws.Search.{none_start, no_move, found_here, none_here, none_left}
use Rattle.solver.proofs.look.Search.keeping_from.Goals as goal

pub returns-then-from-end-clause-found : goal.returns-then-from-end-clause-found
returns-then-from-end-clause-found c = no_move _ _ _ _ (omega arith)

pub loop-block-init : goal.loop-block-init
loop-block-init c = record { passed = none_start _ _ _ _ _ (omega arith); same = search rules; kept = search rules }

pub returns-in-Some-clause-found : goal.returns-in-Some-clause-found
returns-in-Some-clause-found c = let l = c.loop-block in
    let got = rw (l.invariant.same.0, l.invariant.same.1) at c.in-Some.ensures.found in
    found_here _ _ _ _ l.block l.invariant.passed _ _ c.max.ensures c.min.ensures _ got

pub loop-block-preserved : goal.loop-block-preserved
loop-block-preserved c = let l = c.loop-block in
    let got = rw (l.invariant.same.0, l.invariant.same.1) at c.in_default.ensures.found in record {
      passed = none_here _ _ _ _ l.block l.invariant.passed _ _ c.max.ensures c.min.ensures got;
      same = search rules;
      kept = search rules;
    }

pub returns-clause-found : goal.returns-clause-found
returns-clause-found c = none_left _ _ _ _ c.loop-block.block c.loop-block.invariant.passed (omega (arith, c.div_ceil-block-end.ensures))
