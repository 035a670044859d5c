-- `put_nexts` meets its contract: each turn puts one literal.
use Rattle.std.proofs.Common.{◌∙◌, rules, sym}
use Rattle.net.specs.Inner.NamesIn.{names_in}
use Rattle.net.proofs.Laws.Putting.{nexts_next, nexts_end}
use Rattle.net.proofs.numbers.put_nexts.Goals as goal

pub loop-i-preserved : goal.loop-i-preserved
loop-i-preserved c =
    let l = c.loop-i in
    let v = c.args.c.now in
    let items = c.front-next-items.ensures in
    record {
      long = search rules;
      put = l.invariant.put
          ∙ nexts_next v (search rules) (search rules) l.i l.numbers (names_in c.args.names.now.given) (rw (← items) c.loop-i-test.true)
          ∙ rw (c.literal.ensures, items);
    }

pub returns : goal.returns
returns c =
    let l = c.loop-i in
    let v = c.args.c.now in
    sym (l.invariant.put
    ∙ nexts_end v (search rules) (search rules) l.i l.numbers (names_in c.args.names.now.given)
    (rw (← c.front-next-items.ensures) c.loop-i-test.false))
