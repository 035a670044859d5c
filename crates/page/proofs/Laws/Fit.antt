-- A text that is counted is written where it fits, and else refused. Assumes nothing.
use Prim.Native.Nat.{ℕ, ◌<◌, ◌≤◌, ◌^◌}
use native.Mathlib.Omega.{arith}
use mathlib.Core.List.{List}
use mathlib.Core.Path.{◌≡◌, ap, ◌∙◌}
use lib.ListN.{length}
use lib.Seq.{sets}
use Rattle.std.specs.Prelude.{Ok, Err}
use Rattle.circuit.specs.Answer.{WrittenAs, fitted}
use Rattle.circuit.specs.declared.numbers.Fault.TheVariants.{NoRoom}
use Rattle.circuit.proofs.Laws.Answer.{written_bytes, written_refused}
use Rattle.page.specs.declared.Page.{Page}
use Rattle.page.specs.Added.{Added}

-- what is counted on a page of any size
pub fit_refused :
    (text buffer : List ℕ) (start count : Page) → length buffer < 2 ^ 63 → start.at ≡ 0 → Added text start count → length buffer < count.at
    → WrittenAs (fitted text (length buffer)) buffer buffer (Err (record { fault = NoRoom; place = 0 }))
fit_refused text buffer start count room z w h = written_refused text buffer (omega (arith, w.count (omega arith)))

pub fit_written :
    (text : List ℕ) {before after : List ℕ} (start count first page : Page) → length before < 2 ^ 63 → start.at ≡ 0 → Added text start count
    → count.at ≤ length before → first.out.now ≡ before → first.at ≡ 0 → Added text first page → after ≡ page.out.now
    → WrittenAs (fitted text (length before)) before after (Ok page.at)
fit_written text {before} {after} start count first page room z w h e y v f =
    let fits : length text ≤ length before = omega (arith, w.count (omega arith)) in
    written_bytes text before after page.at fits (record {
      answer = omega (arith, v.count (omega arith));
      long = ap length f ∙ v.long ∙ ap length e;
      stand = λ l. f ∙ v.stand (omega (arith, ap length e)) ∙ stored;
    })
  where
    stored : sets first.out.now first.at text ≡ sets before 0 text
    stored = rw (e, y)
