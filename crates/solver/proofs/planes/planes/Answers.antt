-- `solver::planes::planes` meets its contract: the words passed are those of the latches.
use Prim.Native.Nat.{ℕ, ◌%◌}
use mathlib.Core.Path.{refl, ap, ◌∙◌}
use lib.ListN.{get_or}
use Rattle.below.proofs.Laws.Filled.{filled_whole}
use Rattle.blocks.specs.Evaluated.{literals}
use Rattle.circuit.specs.Limits.{base}
use Rattle.net.specs.Net.{net_output}
use Rattle.solver.specs.Inner.Planes.{planes_of}
use Rattle.solver.proofs.planes.planes.Goals as goal

pub returns : goal.returns
unfolding planes_of net_output
returns c = let a = c.args in
    λ x. record {
      next = filled_whole _ _ base.latches c.loop-k.k c.loop-k.next c.loop-k.invariant refl c.loop-k-test.false x;
      error = ap (λ (l : ℕ). get_or a.words.now (l % literals) 0) (c.from-2.ensures ∙ c.get_or-2.ensures) x;
      mark = a.mark;
    }
