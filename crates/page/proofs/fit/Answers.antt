-- `page::fit` counts a text on an empty page, and writes it where the count is no more than the buffer's length. Assumes nothing.
use Prim.Native.Nat.{◌<◌, ◌^◌}
use native.Mathlib.Omega.{arith}
use mathlib.Core.Path.{refl}
use lib.ListN.{length}
use borrow.Author.Rules.{rules}
use Rattle.page.proofs.Laws.Fit.{fit_refused, fit_written}
use Rattle.page.proofs.fit.Goals as goal

pub returns-then-out-count : goal.returns-then-out-count
returns-then-out-count g c =
    let short : length c.args.out.now < 2 ^ 63 = omega arith in
    fit_refused (g.T.Text.text c.args.text.now) c.args.out.now _ c.put.new.page short refl c.put.ensures c.if-out-count.true

pub returns : goal.returns
returns g c =
    let short : length c.args.out.now < 2 ^ 63 = omega arith in
    let page = c.put-2.ensures in
    fit_written (g.T.Text.text c.args.text.now) _ c.put.new.page _ c.put-2.new.page short refl c.put.ensures c.if-out-count.false refl refl page
    (search (rules, page))
