-- `solver::counts::counted` meets its contract: nothing where there are too many inputs of a sort, else what the circuit counts.
use native.Mathlib.Omega.{arith}
use mathlib.Core.Path.{◌≡◌, sym, ap, ◌∙◌}
use lib.ListN.{take}
use Rattle.circuit.specs.Circuit.{latch_count, uncontrollable_count, controllable_count, inputs_that}
use Rattle.circuit.specs.Counts.{counts_of}
use Rattle.circuit.specs.Stored.{empty_circuit, meant, on_lines}
use Rattle.circuit.specs.declared.counts.Counts.{Counts}
use Rattle.circuit.proofs.Laws.Solvable.{many_solved_empty, few_solved, lent_latches}
use Rattle.solver.proofs.counts.counted.Goals as goal
use Rattle.solver.proofs.counts.counted.Goals.{After-too_many}

-- what was counted is what the circuit says
counted : (c : After-too_many) → c.counts-counts.result ≡ counts_of (meant c.args.c)
counted c = c.counts-counts.ensures ∙ ap counts_of c.lent.ensures

u_is : (c : After-too_many) → c.counts-counts.result.readings ≡ uncontrollable_count (meant c.args.c)
unfolding counts_of
u_is c = ap (λ (n : Counts). n.readings) (counted c)

k_is : (c : After-too_many) → c.counts-counts.result.controls ≡ controllable_count (meant c.args.c)
unfolding counts_of
k_is c = ap (λ (n : Counts). n.controls) (counted c)

pub returns-then-too_many-clause-value : goal.returns-then-too_many-clause-value
unfolding counts_of latch_count uncontrollable_count controllable_count inputs_that empty_circuit
returns-then-too_many-clause-value c = let t = (goal.at.returns-then-too_many-clause-value c).After-too_many in
    ap counts_of (many_solved_empty (meant c.args.c) _ _ (u_is t) (k_is t) (sym c.too_many.ensures ∙ c.if-too_many.true))

pub returns-else-too_many-clause-value : goal.returns-else-too_many-clause-value
returns-else-too_many-clause-value c = let t = (goal.at.returns-else-too_many-clause-value c).After-too_many in
    counted t ∙ ap counts_of (few_solved (meant c.args.c) _ _ (u_is t) (k_is t) (sym c.too_many.ensures ∙ c.if-too_many.false))

pub returns-else-too_many-clause-few_latches : goal.returns-else-too_many-clause-few_latches
unfolding counts_of meant on_lines latch_count
returns-else-too_many-clause-few_latches c = let v = c.args.c in
    omega (
      arith,
      ap (λ (n : Counts). n.latches) (counted (goal.at.returns-else-too_many-clause-few_latches c).After-too_many),
      lent_latches v.largest (take v.inputs v.input) v.controllable (take v.latches v.latch) v.next v.output (take v.gates v.gate) v.left v.right,
    )
