-- Alarms: two games that an easy mistake in the definitions would get wrong (01, "Easy to get wrong"), computed. Assumes nothing.
use mathlib.Core.Bool.{true, false, not}
use mathlib.Core.Path.{◌≡◌, refl}
use lib.Dec.{eqb}
use Rattle.below.specs.Least.{least, any, every}
use Rattle.game.specs.Attack.{attack_broken}
use Rattle.game.specs.Game.{Game}
use Rattle.game.specs.Keeps.{keeps, answered, safe}
use Rattle.game.specs.Rank.{not_ranked, defeats, defeated, round, ranks_after, rank, in_region}
use Rattle.game.specs.Verdict.{realizable}

-- one state; the error is reading xor control
pub reads_first : Game
reads_first = record { states = 1; readings = 2; controls = 2; step = λ s r k. record { error = not (eqb r k); next = 0 } }

-- who sees the reading first can always match it
pub reading_before_control : realizable reads_first (λ s. true) ≡ true
unfolding reads_first realizable in_region rank ranks_after round defeated not_ranked safe answered keeps every any least
reading_before_control = refl

-- one state that only circles, without error
pub circles : Game
circles = record { states = 1; readings = 1; controls = 1; step = λ s r k. record { error = false; next = 0 } }

-- it has no rank, and no table may give it one
pub circling_has_no_rank : rank circles 0 ≡ 0
unfolding circles rank ranks_after round defeated not_ranked safe answered keeps every any least
circling_has_no_rank = refl

pub circling_breaks_the_rule : attack_broken circles (λ s. 1) (λ s. 0) 0 ≡ true
unfolding circles attack_broken defeats not_ranked answered keeps any least
circling_breaks_the_rule = refl
