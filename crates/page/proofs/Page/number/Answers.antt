-- `page::Page::number` adds the digits of the number. Assumes nothing.
use mathlib.Core.Path.{refl}
use Rattle.text.specs.Number.{decimal}
use Rattle.page.proofs.Laws.Added.{added_put}
use Rattle.page.proofs.Page.number.Goals as goal

pub returns : goal.returns
returns c =
    let put = c.put_decimal-digits in
    added_put (decimal c.args.n) c.args.self.now _ put.result refl put.ensures.value c.saturating_add-self.ensures put.ensures.out_after
