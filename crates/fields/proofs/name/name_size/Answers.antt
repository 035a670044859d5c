-- `fields::name::name_size` meets its contract: the bytes that a name may have, from the front on. Assumes nothing.
use borrow.Author.Rules.{rules}
use borrow.Author.Tests.{tests}
use mathlib.Core.Path.{ap, ◌∙◌}
use lib.ListN.{length}
use Rattle.std.proofs.lemmas.Iterator.{YieldsList-from_slice}
use Rattle.std.proofs.lemmas.Iterator.Consumers.{count_from_yields_List}
use Rattle.std.proofs.lemmas.Iterator.Search.{YieldsList-from_take_while}
use Rattle.text.specs.Symbol.{is_name_byte}
use Rattle.fields.proofs.Laws.Runs.{run_taken}
use Rattle.fields.proofs.name.name_size.Goals as goal

pub returns : goal.returns
unfolding is_name_byte
returns c =
    let t = c.args.text.now in
    let w = c.take_while in
    count_from_yields_List w.result _ c.count.ensures.ran
    (YieldsList-from_take_while _ is_name_byte (YieldsList-from_slice t (cc)) w.ensures.closure w.ensures.done (λ x b q k. search (rules, tests)))
    ∙ ap length (run_taken is_name_byte t)
