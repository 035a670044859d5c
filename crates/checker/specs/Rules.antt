-- What the tables of a certificate must be (01, "The certificate", what passes; "The numbers", 13 to 15; 02, T-07). Assumes nothing.
use Rattle.std.specs.Prelude.{ℕ, ◌*◌, ◌/◌, ◌%◌, Bool, not, ◌&&◌, ◌||◌, List, eqb, ltb, length}
use Rattle.below.specs.Least.{least, any, every}
use Rattle.circuit.specs.Circuit.{Circuit, latch_count, uncontrollable_count, controllable_count}
use Rattle.circuit.specs.Reset.{is_reset}
use Rattle.game.specs.Attack.{attack_broken}
use Rattle.game.specs.CircuitGame.{circuit_game}
use Rattle.game.specs.Reply.{reply_broken}
use Rattle.records.specs.AttackTable.{attack_length}
use Rattle.records.specs.RegionBits.{region_length, unused_bit_set}
use Rattle.records.specs.ReplyTable.{table_length, unused_reply_bit}
use Rattle.checker.specs.StoredFor.{held_at, reply_at, rank_at, attack_at}

-- 13: wrong length, or unused bit 1
abbrev pub bad_region : (region : List ℕ) (L : ℕ) → Bool
bad_region region L = not (eqb (length region) (region_length L)) || unused_bit_set region L

abbrev pub bad_replies : (kind : ℕ) (table : List ℕ) (L U C : ℕ) → Bool
bad_replies kind table L U C = not (eqb (length table) (table_length kind L U C)) || unused_reply_bit kind table L U C

abbrev pub badly_sized : (region : List ℕ) (kind : ℕ) (table : List ℕ) (L U C : ℕ) → Bool
badly_sized region kind table L U C = bad_region region L || bad_replies kind table L U C

unfoldable pub bad_reply_tables : Circuit → (region : List ℕ) (kind : ℕ) (table : List ℕ) → Bool
bad_reply_tables c region kind table = badly_sized region kind table (latch_count c) (uncontrollable_count c) (controllable_count c)

unfoldable pub bad_attack_table : Circuit → (table : List ℕ) → Bool
bad_attack_table c table = not (eqb (length table) (attack_length (latch_count c)))

-- 14: a reset state not in the region; all of them of rank 0
unfoldable pub reset_outside : Circuit → (region : List ℕ) → Bool
reset_outside c region =
    any (λ s. is_reset c s && not (held_at c region s)) (circuit_game c).states

unfoldable pub reset_unranked : Circuit → (table : List ℕ) → Bool
reset_unranked c table =
    every (λ s. not (is_reset c s) || eqb (rank_at c table s) 0) (circuit_game c).states

-- 15: the lowest s × 2^U + reading at which a reply breaks the step rule, or 2^(L+U) where none does
unfoldable pub broken_reply : Circuit → (region : List ℕ) (kind : ℕ) (table : List ℕ) → ℕ
broken_reply c region kind table =
    let g = circuit_game c in
    least (λ i. reply_broken g (held_at c region) (reply_at c kind table) (i / g.readings) (i % g.readings)) (g.states * g.readings)

abbrev pub some_reply_broken : Circuit → (region : List ℕ) (kind : ℕ) (table : List ℕ) → Bool
some_reply_broken c region kind table = ltb (broken_reply c region kind table) ((circuit_game c).states * (circuit_game c).readings)

-- the lowest s whose attack breaks it, or 2^L where none does
unfoldable pub broken_attack : Circuit → (table : List ℕ) → ℕ
broken_attack c table =
    let g = circuit_game c in
    least (attack_broken g (rank_at c table) (attack_at c table)) g.states

abbrev pub some_attack_broken : Circuit → (table : List ℕ) → Bool
some_attack_broken c table = ltb (broken_attack c table) (circuit_game c).states
