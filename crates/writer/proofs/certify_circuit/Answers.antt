-- `writer::certify_circuit` meets its contract: the rank of state 0 is the verdict, and each certificate is written for its own.
-- Assumes nothing.
use Rattle.circuit.specs.Stored.{meant, solvable}
use Rattle.writer.specs.Inner.Solved.{Few, Solved}
use Rattle.writer.proofs.Laws.Solved.{few_controls_lem, zero_realizable, ranked_unrealizable}
use Rattle.writer.proofs.certify_circuit.Goals as goal
use Rattle.writer.proofs.certify_circuit.Goals.{After-solve-solution}

few : (w : After-solve-solution) → Few w.counted-counts.result
few w = let n = w.counted-counts in record {
  latches = n.ensures.few_latches;
  readings = n.ensures.few_readings;
  controls = few_controls_lem (meant w.args.c) n.result n.ensures.value;
}

solved : (w : After-solve-solution) → Solved (solvable (meant w.args.c)) w.counted-counts.result w.solve-solution.result
solved w = record { counts_are = w.counted-counts.ensures.value; solution_is = w.solve-solution.ensures }

pub certify_replies-requires : goal.certify_replies-requires
certify_replies-requires c = few (goal.at.certify_replies-requires c).After-solve-solution

pub certify_attacks-requires : goal.certify_attacks-requires
certify_attacks-requires c = few (goal.at.certify_attacks-requires c).After-solve-solution

pub returns-then-solution-eq0 : goal.returns-then-solution-eq0
returns-then-solution-eq0 c = let w = (goal.at.returns-then-solution-eq0 c).After-solve-solution in
    c.certify_replies.ensures _ (solved w) (zero_realizable _ _ _ (few w) (solved w) c.if-solution-eq0.true)

pub returns-else-solution-eq0 : goal.returns-else-solution-eq0
returns-else-solution-eq0 c = let w = (goal.at.returns-else-solution-eq0 c).After-solve-solution in
    c.certify_attacks.ensures _ _ (solved w) (ranked_unrealizable _ _ _ (few w) (solved w) c.if-solution-eq0.false)
