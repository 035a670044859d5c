-- `bit_word` meets its contract: the lowest six bits are the lane's own, the others the block's.
use Rattle.std.proofs.Common.{◌∙◌, sym}
use Rattle.blocks.specs.Lane.{lane}
use Rattle.blocks.proofs.Laws.Lane.{lane_all, lane_none}
use Rattle.blocks.proofs.Laws.Move.{own_word, move-low, move-high}
use Rattle.blocks.proofs.moves.bit_word.Goals as goal

pub returns-then-i-lt6 : goal.returns-then-i-lt6
returns-then-i-lt6 c = let a = c.args in
    λ j h. own_word a.i j c.if-i-lt6.true h ∙ move-low a.block j a.i h c.if-i-lt6.true

pub returns-then-is_lane : goal.returns-then-is_lane
unfolding lane
returns-then-is_lane c = let a = c.args in
    λ j h. lane_all j h ∙ sym c.if-is_lane.true ∙ c.is_lane.ensures ∙ move-high a.block j a.i h c.if-i-lt6.false

pub returns-else-is_lane : goal.returns-else-is_lane
unfolding lane
returns-else-is_lane c = let a = c.args in
    λ j h. lane_none j ∙ sym c.if-is_lane.false ∙ c.is_lane.ensures ∙ move-high a.block j a.i h c.if-i-lt6.false
