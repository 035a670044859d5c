-- `region::region_of` meets its contract: each turn puts the bit of one state more.
use Prim.Native.Nat.{ℕ}
use native.Mathlib.Omega.{arith}
use mathlib.Core.Bool.{Bool}
use mathlib.Core.List.{List}
use mathlib.Core.Path.{ap, ap₂, ◌∙◌}
use lib.Dec.{eqb}
use lib.ListN.{get_or}
use Rattle.bits.specs.ByteBit.{with_byte_bit}
use Rattle.keeping.specs.RankList.{ranks_in}
use Rattle.solver.specs.Over.{rank_zero}
use Rattle.region.specs.RegionTable.{region_table}
use Rattle.region.proofs.Laws.Verdict.{zero_or_not}
use Rattle.region.proofs.Laws.RegionByte.{region_none, region_more, region_all}
use Rattle.region.proofs.region_of.Goals as goal

pub loop-s-init : goal.loop-s-init
loop-s-init c = c.filled-bytes.ensures ∙ region_none (rank_zero c.args.ranks.now)

pub loop-s-preserved : goal.loop-s-preserved
unfolding rank_zero ranks_in
loop-s-preserved c = let set = rank_zero c.args.ranks.now in
    let here = ap (λ (n : ℕ). eqb n 0) c.get_or.ensures ∙ zero_or_not (get_or c.args.ranks.now c.loop-s.s 0) in
    c.put_bit.ensures ∙ ap₂ (λ (l : List ℕ) (b : Bool). with_byte_bit l c.loop-s.s b) c.loop-s.invariant here
    ∙ region_more set c.loop-s.s (omega (arith, c.loop-s-test.true, c.min-s-end.ensures))

pub returns : goal.returns
returns c = let set = rank_zero c.args.ranks.now in
    c.loop-s.invariant ∙ ap (region_table set) (omega (arith, c.min-s-end.ensures)) ∙ region_all set c.args.states
