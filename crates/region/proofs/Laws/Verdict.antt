-- The verdict by the rank of state 0, the only reset state. Assumes nothing.
use Prim.Native.Nat.{ℕ, zero, suc, ◌^◌, ◌<◌, ◌≤◌}
use native.Mathlib.Omega.{arith}
use native.Mathlib.Decide.{dec_lt}
use mathlib.Core.Bool.{Bool, true, false, not, ◌||◌}
use mathlib.Core.Path.{◌≡◌, refl, sym, ap, ◌∙◌}
use lib.Dec.{ltb, eqb}
use lib.ListN.{get_or}
use lib.Pow.{pow_pos}
use borrow.Author.Tests.{lt-ltb, le-ltb, eq-eqb, ne_eqb}
use Rattle.below.specs.Least.{every}
use Rattle.below.proofs.Laws.Least.{every_at, every_of}
use Rattle.circuit.specs.Circuit.{Circuit, latch_count}
use Rattle.circuit.specs.Limits.{base}
use Rattle.circuit.specs.Reset.{is_reset}
use Rattle.game.specs.CircuitGame.{circuit_game, is_realizable}
use Rattle.game.specs.Rank.{rank, in_region}
use Rattle.game.specs.Verdict.{realizable}
use Rattle.keeping.specs.RankList.{ranks_in}
use Rattle.solver.specs.RankTable.{rank_table}
use Rattle.solver.proofs.Laws.RankTable.{rank_in_table}

some_state : (c : Circuit) → 0 < (circuit_game c).states
unfolding circuit_game
some_state c = pow_pos (latch_count c)

pub zero_or_not : (n : ℕ) → eqb n 0 ≡ not (ltb 0 n)
zero_or_not n =
    elim (dec_lt 0 n) [
      | yes h ↦ ne_eqb n 0 (λ e. omega arith) ∙ sym (ap not (lt-ltb 0 n h))
      | no h ↦ eq-eqb n 0 (omega arith) ∙ sym (ap not (le-ltb 0 n (omega arith)))
    ]

-- each number that is 0 is in a set exactly if 0 is
zero_alone : (set : ℕ → Bool) (n : ℕ) → 0 < n → every (λ s. not (eqb s 0) || set s) n ≡ set 0
zero_alone set n h = by (set 0) (every (λ s. not (eqb s 0) || set s) n) refl refl
  where
    at : set 0 ≡ true → (s : ℕ) → (not (eqb s 0) || set s) ≡ true
    at e zero = e
    at e (suc s) = rw (ne_eqb (suc s) 0 (λ q. omega arith))

    by : (a b : Bool) → set 0 ≡ a → every (λ s. not (eqb s 0) || set s) n ≡ b → every (λ s. not (eqb s 0) || set s) n ≡ set 0
    by true b e f = every_of (λ s. not (eqb s 0) || set s) n (λ s l. at e s) ∙ sym e
    by false true e f = f ∙ sym (every_at (λ s. not (eqb s 0) || set s) n 0 f h)
    by false false e f = f ∙ sym e

-- the only reset state is 0
pub realizable_at_zero : (c : Circuit) → (circuit_game c).states ≤ 2 ^ base.latches → eqb (get_or (rank_table (circuit_game c)) 0 0) 0 ≡ is_realizable c
unfolding is_realizable realizable is_reset ranks_in in_region
realizable_at_zero c few =
    ap (λ (n : ℕ). eqb n 0) (rank_in_table (circuit_game c) few 0 (some_state c))
    ∙ zero_or_not (rank (circuit_game c) 0)
    ∙ sym (zero_alone (in_region (circuit_game c)) (circuit_game c).states (some_state c))
