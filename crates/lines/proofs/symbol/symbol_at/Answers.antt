-- `lines::symbol::symbol_at` meets its contract: each way out is one of the definition's tests. Assumes nothing.
use Prim.Native.Nat.{ℕ, ◌≤◌, ◌<◌}
use borrow.Author.Tests.{eq-eqb, ne_eqb}
use lib.Dec.{eqb}
use lib.ListN.{get_or}
use mathlib.Core.Path.{sym, ap, ◌∙◌, subst}
use Rattle.lines.specs.Inner.Headed.{said}
use Rattle.lines.proofs.Laws.SymbolHere.{badly_named, position_above, named-before, symbol_here}
use Rattle.lines.proofs.symbol.symbol_at.Goals as goal

pub returns-then-not-is_named : goal.returns-then-not-is_named
returns-then-not-is_named c =
    let a = c.args in
    λ seen says. badly_named (said a.h) a.named.now a.letter a.number.value a.line.now a.number.behind seen says
    (sym c.is_named.ensures ∙ c.if-not-is_named.true)

pub returns-then-positions_of-position : goal.returns-then-positions_of-position
returns-then-positions_of-position c =
    let a = c.args in
    λ seen says. position_above (said a.h) a.named.now a.letter a.number.value a.line.now a.number.behind seen says
    (sym c.is_named.ensures ∙ c.if-not-is_named.false)
    (subst (λ (m : ℕ). m ≤ a.number.value) c.positions_of.ensures c.if-positions_of-position.true)

pub returns-then-get_or-eq1 : goal.returns-then-get_or-eq1
returns-then-get_or-eq1 c =
    let a = c.args in
    λ seen says. named-before (said a.h) a.named.now a.letter a.number.value a.line.now a.number.behind seen says
    (sym c.is_named.ensures ∙ c.if-not-is_named.false)
    (subst (λ (m : ℕ). a.number.value < m) c.positions_of.ensures c.if-positions_of-position.false)
    (eq-eqb _ 1 (ap (λ (i : ℕ). get_or a.named.now i 0) (sym c.slot_of-slot.ensures) ∙ sym c.get_or.ensures ∙ c.if-get_or-eq1.true))

pub returns : goal.returns
returns c =
    let a = c.args in
    λ seen says. symbol_here (said a.h) a.named.now a.letter a.number.value a.line.now a.number.behind seen says
    (sym c.is_named.ensures ∙ c.if-not-is_named.false)
    (subst (λ (m : ℕ). a.number.value < m) c.positions_of.ensures c.if-positions_of-position.false)
    (ap (λ (i : ℕ). eqb (get_or a.named.now i 0) 1) (sym c.slot_of-slot.ensures) ∙ ap (λ (b : ℕ). eqb b 1) (sym c.get_or.ensures)
    ∙ ne_eqb c.get_or.result 1 c.if-get_or-eq1.false)
    c.slot_of-slot.result c.is_controllable.result c.slot_of-slot.ensures c.is_controllable.ensures
