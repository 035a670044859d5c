-- The listing (01, "Listings to compare"): the verdict, L, U, C; then per state its number and, if realizable, 1 or 0 for in or out and the
-- replies by reading; if unrealizable, rank and attack. Assumes nothing.
use Rattle.std.specs.Prelude.{ℕ, Bool, cond, List, [], ◌∷◌}
use Rattle.below.specs.Table.{table}
use Rattle.bits.specs.Bit.{one_if}
use Rattle.circuit.specs.Circuit.{Circuit, latch_count, uncontrollable_count, controllable_count}
use Rattle.game.specs.Game.{Game}
use Rattle.game.specs.Rank.{rank, in_region}
use Rattle.game.specs.Reply.{reply}
use Rattle.game.specs.Attack.{attack}
use Rattle.game.specs.CircuitGame.{circuit_game, is_realizable}

pub record Listing : Type 0 where
  pub realizable : Bool
  pub counts : List ℕ
  pub states : List (List ℕ)

unfoldable pub reply_line : Game → (state : ℕ) → List ℕ
reply_line g s = s ∷ one_if (in_region g s) ∷ table (reply g s) g.readings

unfoldable pub attack_line : Game → (state : ℕ) → List ℕ
attack_line g s = s ∷ rank g s ∷ attack g s ∷ []

unfoldable pub listing_of : Circuit → Listing
listing_of c =
    let g = circuit_game c in
    record {
      realizable = is_realizable c;
      counts = latch_count c ∷ uncontrollable_count c ∷ controllable_count c ∷ [];
      states = table (λ s. cond (is_realizable c) (reply_line g s) (attack_line g s)) g.states;
    }
