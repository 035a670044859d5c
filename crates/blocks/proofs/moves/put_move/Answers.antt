-- `put_move` meets its contract: each turn puts one variable.
use Rattle.std.proofs.Common.{◌∙◌, ap, arith}
use Rattle.net.specs.Net.{with_move}
use Rattle.blocks.specs.Evaluated.{put_both, put_first}
use Rattle.blocks.specs.Lane.{lane, move_in, lits_in}
use Rattle.blocks.proofs.Laws.Putting.{first_none, first_more}
use Rattle.blocks.proofs.moves.put_move.Goals as goal

pub loop-v-init : goal.loop-v-init
loop-v-init c = λ bits j h f. first_none (with_move bits (move_in c.args.block j)) (lits_in c.args.words.now j)

pub loop-v-preserved : goal.loop-v-preserved
loop-v-preserved c = let a = c.args in
    let l = c.loop-v in
    λ bits j h f.
    c.put_both.ensures j f
    ∙ ap (put_both l.v (lane c.variable_word.result j)) (l.invariant bits j h f)
    ∙ first_more l.v _ (with_move bits (move_in a.block j)) (lits_in a.words.now j) (c.variable_word.ensures bits j (omega arith) f)

pub returns : goal.returns
returns c = let a = c.args in
    let l = c.loop-v in
    λ bits j h f.
    l.invariant bits j h f
    ∙ ap (λ v. put_first v (with_move bits (move_in a.block j)) (lits_in a.words.now j)) {x = l.v} {y = a.n} (omega arith)
