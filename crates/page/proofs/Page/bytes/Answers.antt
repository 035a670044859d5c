-- `page::Page::bytes` adds the bytes as they are. Assumes nothing.
use mathlib.Core.Path.{refl}
use Rattle.page.proofs.Laws.Added.{added_put}
use Rattle.page.proofs.Page.bytes.Goals as goal

pub returns : goal.returns
returns c =
    let put = c.put_bytes-n in
    added_put c.args.text.now c.args.self.now _ put.result refl put.ensures.value c.saturating_add-self.ensures put.ensures.out_after
