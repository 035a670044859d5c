-- Replies over a list of ranks: what the code finds, and over the game's own ranks they are the game's. Assumes nothing.
use Prim.Native.Nat.{ℕ, ◌^◌, ◌<◌, ◌≤◌}
use native.Mathlib.Omega.{arith}
use mathlib.Core.Bool.{Bool, true, false, cond, not, ◌&&◌}
use mathlib.Core.List.{List}
use mathlib.Core.Path.{◌≡◌, refl, sym, ap, ◌∙◌, fun_ext}
use lib.Dec.{leb, ltb}
use borrow.Author.Tests.{lt-ltb, le-ltb, le-leb}
use Rattle.std.proofs.Common.{Some, None}
use Rattle.below.specs.Least.{least}
use Rattle.below.proofs.Laws.Least.{least_same}
use Rattle.circuit.specs.Limits.{base}
use Rattle.game.specs.Game.{Game, Proper}
use Rattle.game.specs.Keeps.{keeps}
use Rattle.game.specs.Rank.{not_ranked, in_region}
use Rattle.game.specs.Reply.{reply}
use Rattle.game.proofs.Laws.Keeps.{keeps_same}
use Rattle.game.proofs.Laws.Reply.{reply-is_control}
use Rattle.keeping.specs.RankList.{ranks_in}
use Rattle.solver.specs.Inner.Answers.{LeastBelow}
use Rattle.solver.specs.Over.{rank_zero, found, reply_over}
use Rattle.solver.specs.RankTable.{rank_table}
use Rattle.solver.proofs.Laws.RankTable.{rank_in_table}

pub found_below : (i n : ℕ) → i < n → i ≡ found i n
unfolding found
found_below i n h = rw (lt-ltb i n h)

pub found_none : (i n : ℕ) → n ≤ i → 0 ≡ found i n
unfolding found
found_none i n h = rw (le-ltb i n h)

-- where no rank is above the bound, not of rank 1 to it is of rank 0
unranked-is_zero : (ranks : List ℕ) (bound : ℕ) → ((t : ℕ) → ranks_in ranks t ≤ bound) → not_ranked (ranks_in ranks) bound ≡ rank_zero ranks
unfolding not_ranked rank_zero
unranked-is_zero ranks bound most = fun_ext (λ t. ap not (at (ranks_in ranks t) (most t)))
  where
    and_true : (b : Bool) → (b && true) ≡ b
    and_true true = refl
    and_true false = refl

    at : (m : ℕ) → m ≤ bound → (leb 1 m && leb m bound) ≡ ltb 0 m
    at m h = rw (le-leb m bound h) (and_true (leb 1 m))

module _ (g : Game) (ranks : List ℕ) (s : ℕ) (x : ℕ) (is : x ≡ ranks_in ranks s) where
  zero_true : x ≤ 0 → rank_zero ranks s ≡ true
  unfolding rank_zero
  zero_true h = ap not (le-ltb 0 (ranks_in ranks s) (omega arith))

  zero_false : 0 < x → rank_zero ranks s ≡ false
  unfolding rank_zero
  zero_false h = ap not (lt-ltb 0 (ranks_in ranks s) (omega arith))

  pub no_reply : (r : ℕ) → 0 < x → 0 ≡ reply_over g ranks s r
  unfolding reply_over
  no_reply r h = rw (zero_false h)

  module _ (bound r : ℕ) (most : (t : ℕ) → ranks_in ranks t ≤ bound) (low : x ≤ 0) where
    reply_is : reply_over g ranks s r ≡ found (least (keeps g (not_ranked (ranks_in ranks) bound) s r) g.controls) g.controls
    unfolding reply_over
    reply_is =
        rw (zero_true low) (ap (λ (set : ℕ → Bool). found (least (keeps g set s r) g.controls) g.controls) (sym (unranked-is_zero ranks bound most)))

    pub reply_found : (k : ℕ) → LeastBelow (keeps g (not_ranked (ranks_in ranks) bound) s r) g.controls (Some k) → k ≡ reply_over g ranks s r
    reply_found k got = found_below k g.controls got.within ∙ ap (λ (i : ℕ). found i g.controls) got.least ∙ sym reply_is

    pub none_found : LeastBelow (keeps g (not_ranked (ranks_in ranks) bound) s r) g.controls None → 0 ≡ reply_over g ranks s r
    none_found got = found_none g.controls g.controls (omega arith) ∙ ap (λ (i : ℕ). found i g.controls) got.least ∙ sym reply_is

module _ (g : Game) (proper : Proper g) (few : g.states ≤ 2 ^ base.latches) where
  -- the states of rank 0 in the list of ranks are those of the region
  zero_in_region : (s : ℕ) → s < g.states → rank_zero (rank_table g) s ≡ in_region g s
  unfolding rank_zero in_region
  zero_in_region s h = ap (λ (n : ℕ). not (ltb 0 n)) (rank_in_table g few s h)

  module _ (s : ℕ) (state : s < g.states) where
    pub reply_over-is-reply : (r : ℕ) → r < g.readings → reply_over g (rank_table g) s r ≡ reply g s r
    unfolding reply_over reply
    reply_over-is-reply r h = by (in_region g s) refl
      where
        same : least (keeps g (rank_zero (rank_table g)) s r) g.controls ≡ least (keeps g (in_region g) s r) g.controls
        same =
            least_same (keeps g (rank_zero (rank_table g)) s r) (keeps g (in_region g) s r) g.controls
            (λ k l. keeps_same g (rank_zero (rank_table g)) (in_region g) s r k (zero_in_region _ (proper.leads s r k)))

        inside : in_region g s ≡ true → reply g s r ≡ least (keeps g (in_region g) s r) g.controls
        inside e = rw e

        by : (b : Bool) → in_region g s ≡ b
            → cond (rank_zero (rank_table g) s) (found (least (keeps g (rank_zero (rank_table g)) s r) g.controls) g.controls) 0 ≡ cond (in_region g s)
            (least (keeps g (in_region g) s r) g.controls) 0
        by true e =
            rw (zero_in_region s state, e, same)
            (sym (found_below (least (keeps g (in_region g) s r) g.controls) g.controls
            (omega (arith, inside e, reply-is_control g proper s r state h e))))
        by false e = rw (zero_in_region s state, e)
