-- `fields::number::digits_at` meets its contract: the digits from the front on. Assumes nothing.
use borrow.Author.Rules.{rules}
use borrow.Author.Tests.{tests}
use Prim.Native.Nat.{ℕ}
use mathlib.Core.Path.{ap, ◌∙◌}
use lib.ListN.{take}
use Rattle.std.proofs.lemmas.Iterator.{YieldsList-from_slice}
use Rattle.std.proofs.lemmas.Iterator.Consumers.{count_from_yields_List}
use Rattle.std.proofs.lemmas.Iterator.Search.{YieldsList-from_take_while}
use Rattle.std.proofs.lemmas.List.Folds.{length-prefix_len}
use Rattle.std.specs.Char.{is_ascii_digit}
use Rattle.text.specs.Number.{run}
use Rattle.fields.proofs.Laws.Runs.{run_taken, ascii_digit}
use Rattle.fields.proofs.number.digits_at.Goals as goal

pub returns : goal.returns
returns c =
    let t = c.behind-rest.result.now in
    let w = c.take_while in
    ap (λ (k : ℕ). take k t) (count_from_yields_List w.result _ c.count-n.ensures.ran
    (YieldsList-from_take_while _ is_ascii_digit (YieldsList-from_slice t (cc)) w.ensures.closure w.ensures.done (λ x b q k. search (rules, tests)))
    ∙ length-prefix_len is_ascii_digit t)
    ∙ run_taken is_ascii_digit t ∙ (λ i. run (λ b. ascii_digit b i) (c.behind-rest.ensures i))
