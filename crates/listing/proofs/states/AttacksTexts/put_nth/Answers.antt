-- `listing::states::Attacks` puts a state's number, rank and attack. Assumes nothing.
use mathlib.Core.Path.{◌∙◌}
use Rattle.keeping.specs.RankList.{ranks_in}
use Rattle.listing.specs.Inner.SolvedText.{attack_text}
use Rattle.listing.proofs.states.AttacksTexts.put_nth.Goals as goal

pub returns : goal.returns
unfolding attack_text ranks_in
returns c = rw (c.from-rank.ensures ∙ c.get_or.ensures, c.from-attack.ensures ∙ c.get_or-2.ensures) at c.line.ensures
