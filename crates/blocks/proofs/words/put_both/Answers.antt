-- `put_both` meets its contract: a word and its inverse, side by side.
use Rattle.std.proofs.Common.{arith, rules}
use Rattle.blocks.proofs.Laws.Putting.{both-set}
use Rattle.blocks.proofs.words.put_both.Goals as goal

pub returns : goal.returns
returns c = let a = c.args in λ j h. both-set a.words.now a.v a.w j (omega arith) (search rules) h
