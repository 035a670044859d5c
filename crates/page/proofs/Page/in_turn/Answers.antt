-- `page::Page::in_turn` adds text after text: each turn adds one more behind those before it. Assumes nothing.
use Prim.Native.Nat.{ℕ}
use native.Mathlib.Omega.{arith}
use mathlib.Core.Path.{◌≡◌, subst}
use Rattle.bits.specs.InTurn.{in_turn}
use Rattle.page.specs.Added.{Added}
use Rattle.page.proofs.Laws.Added.{added_none, added_turn}
use Rattle.page.proofs.Page.in_turn.Goals as goal

pub loop-i-init : goal.loop-i-init
loop-i-init g c = added_none (g.T.Texts.nth c.args.texts.now) c.args.self.now

pub loop-i-preserved : goal.loop-i-preserved
loop-i-preserved g c = added_turn (g.T.Texts.nth c.args.texts.now) c.loop-i.i c.loop-i.invariant c.put_nth.ensures

pub returns : goal.returns
returns g c =
    let all_of : c.loop-i.i ≡ c.args.n = omega arith in
    subst (λ (k : ℕ). Added (in_turn (g.T.Texts.nth c.args.texts.now) k) c.args.self.now c.loop-i.self) all_of c.loop-i.invariant
