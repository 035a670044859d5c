-- `fields::line::line_end` meets its contract: behind byte 10, or where the text ends. Assumes nothing.
use borrow.Author.Rules.{rules}
use borrow.Author.Tests.{tests}
use Prim.Native.Nat.{ℕ, ◌+◌}
use mathlib.Core.List.{List}
use mathlib.Core.Path.{sym, ap, ◌∙◌}
use lib.Dec.{eqb}
use lib.ListN.{length}
use Rattle.std.proofs.lemmas.Iterator.{YieldsList-from_slice}
use Rattle.std.proofs.lemmas.Iterator.Search.{position_from_yields_List}
use Rattle.text.specs.Line.{first_line}
use Rattle.fields.proofs.Laws.Runs.{line_found, line_open}
use Rattle.fields.proofs.line.line_end.Goals as goal

pub returns-in-Some : goal.returns-in-Some
returns-in-Some c =
    let t = c.behind-rest.result.now in
    let where_it-is =
    position_from_yields_List (λ b. eqb b 10) _ _ c.position.result c.position.ensures.ran (YieldsList-from_slice t (cc))
    (λ x b q k. search (rules, tests)) in
    ap (λ (n : ℕ). c.args.at + n) (sym (line_found t c.position.result where_it-is c.in-Some.i c.in-Some.is)
    ∙ ap (λ (l : List ℕ). length (first_line l)) c.behind-rest.ensures)

pub returns-in-None : goal.returns-in-None
returns-in-None c =
    let t = c.behind-rest.result.now in
    let where_it-is =
    position_from_yields_List (λ b. eqb b 10) _ _ c.position.result c.position.ensures.ran (YieldsList-from_slice t (cc))
    (λ x b q k. search (rules, tests)) in
    ap (λ (n : ℕ). c.args.at + n) (sym (line_open t c.position.result where_it-is c.in-None.is)
    ∙ ap (λ (l : List ℕ). length (first_line l)) c.behind-rest.ensures)
