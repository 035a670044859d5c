-- `keeping::rank_list::Unranked::contains` meets its contract: what the range contains are the ranks from 1 to the bound.
use Rattle.std.proofs.Common.{arith}
use Rattle.std.proofs.lemmas.Bool.Decides.{nat_tests}
use Rattle.game.specs.Rank.{not_ranked}
use Rattle.keeping.specs.RankList.{ranks_in}
use Rattle.keeping.proofs.rank_list.Unranked.contains.Goals as goal

pub returns : goal.returns
unfolding not_ranked ranks_in
returns c = rw (c.contains.ensures.value, c.new.ensures.start, c.new.ensures.end, c.new.ensures.exhausted, c.get_or.ensures) (grind (arith, nat_tests))
