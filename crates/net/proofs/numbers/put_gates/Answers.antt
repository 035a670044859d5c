-- `put_gates` meets its contract: each turn puts and names one gate.
use Rattle.std.proofs.Common.{arith, rules}
use Rattle.net.proofs.Laws.Putting.{gates_put}
use Rattle.net.proofs.numbers.put_gates.Goals as goal

pub loop-i-preserved : goal.loop-i-preserved
loop-i-preserved c =
    record {
      long = search rules;
      put = grind (arith, gates_put);
      named = grind (arith, gates_put);
    }
