-- The rounds of ranks: a rank once given never changes, a round gives only its own number, and a round that changes nothing is the last
-- that could. As many rounds as there are states suffice. Assumes nothing.
use Prim.Native.Nat.{ℕ, zero, suc, ◌+◌, ◌-◌, ◌<◌, ◌≤◌}
use native.Mathlib.Omega.{arith}
use native.Mathlib.Nat.{zero-add, suc-add, le_refl}
use mathlib.Core.Bool.{Bool, true, false, not, ◌&&◌, true≢false}
use mathlib.Core.Logic.{◌⊎◌, inl, inr}
use mathlib.Core.Path.{◌≡◌, refl, sym, ap, ◌∙◌, subst}
use lib.Dec.{leb, ltb, eqb}
use borrow.Author.Tests.{ltb-true, ltb-false, lt-ltb, le-ltb, le-leb, eqb-true, eqb-false}
use Rattle.below.specs.Least.{every}
use Rattle.below.proofs.Laws.Count.{count, count_full, count_grows}
use Rattle.below.proofs.Laws.Least.{every_at, every-fails, every_same}
use Rattle.game.specs.Game.{Game, Proper}
use Rattle.game.specs.Keeps.{safe}
use Rattle.game.specs.Rank.{not_ranked, defeated, round, ranks_after, rank}
use Rattle.game.proofs.Laws.Keeps.{answered_same}

module _ (g : Game) where
  -- what round n + 1 does at a state
  pub data Rounded (n s : ℕ) : Type 0 where
    kept : 0 < ranks_after g n s → ranks_after g (suc n) s ≡ ranks_after g n s → Rounded n s
    given : ranks_after g n s ≡ 0 → defeated g (ranks_after g n) n s ≡ true → ranks_after g (suc n) s ≡ suc n → Rounded n s
    passed : ranks_after g n s ≡ 0 → defeated g (ranks_after g n) n s ≡ false → ranks_after g (suc n) s ≡ 0 → Rounded n s

  pub rounded : (n s : ℕ) → Rounded n s
  unfolding ranks_after round
  rounded n s = by (ltb 0 (ranks_after g n s)) (defeated g (ranks_after g n) n s) refl refl
    where
      by : (t u : Bool) → ltb 0 (ranks_after g n s) ≡ t → defeated g (ranks_after g n) n s ≡ u → Rounded n s
      by true u e f = kept (ltb-true _ _ e) (rw e)
      by false true e f = given (omega (arith, ltb-false 0 (ranks_after g n s) e)) f (rw (e, f))
      by false false e f = passed (omega (arith, ltb-false 0 (ranks_after g n s) e)) f (rw (e, f))

  pub rank_most : (n s : ℕ) → ranks_after g n s ≤ n
  unfolding ranks_after
  rank_most zero s = le_refl 0
  rank_most (suc n) s = by (rounded n s) (rank_most n s)
    where
      by : Rounded n s → ranks_after g n s ≤ n → ranks_after g (suc n) s ≤ suc n
      by (kept h e) ih = omega arith
      by (given z d e) ih = omega arith
      by (passed z d e) ih = omega arith

  -- after n rounds, not of rank 1 to n is of rank 0
  pub not_ranked_now : (n s : ℕ) → not_ranked (ranks_after g n) n s ≡ not (ltb 0 (ranks_after g n s))
  unfolding not_ranked
  not_ranked_now n s = ap not (by (ranks_after g n s) (rank_most n s))
    where
      by : (m : ℕ) → m ≤ n → (leb 1 m && leb m n) ≡ ltb 0 m
      by m h = rw (le-leb m n h) (and_true (leb 1 m))
        where
          and_true : (b : Bool) → (b && true) ≡ b
          and_true true = refl
          and_true false = refl

  -- what a later round says of a state's rank in round k
  pub data Later (k n s : ℕ) : Type 0 where
    stays : 0 < ranks_after g k s → ranks_after g n s ≡ ranks_after g k s → Later k n s
    none : ranks_after g k s ≡ 0 → ranks_after g n s ≡ 0 → Later k n s
    after : ranks_after g k s ≡ 0 → k < ranks_after g n s → Later k n s

  pub later : (k d s : ℕ) → Later k (d + k) s
  later k zero s = rw zero-add (by (ranks_after g k s) refl)
    where
      by : (m : ℕ) → ranks_after g k s ≡ m → Later k k s
      by zero e = none e e
      by (suc m) e = stays (omega arith) refl
  later k (suc d) s = rw suc-add (by (rounded (d + k) s) (later k d s))
    where
      by : Rounded (d + k) s → Later k (d + k) s → Later k (suc (d + k)) s
      by (kept h e) (stays l f) = stays l (e ∙ f)
      by (kept h e) (none z f) = absurd (omega arith)
      by (kept h e) (after z l) = after z (omega arith)
      by (given y d e) (stays l f) = absurd (omega arith)
      by (given y d e) (none z f) = after z (omega arith)
      by (given y d e) (after z l) = absurd (omega arith)
      by (passed y d e) (stays l f) = absurd (omega arith)
      by (passed y d e) (none z f) = none z e
      by (passed y d e) (after z l) = absurd (omega arith)

  pub later_than : (k n s : ℕ) → k ≤ n → Later k n s
  later_than k n s h = subst (λ (m : ℕ). Later k m s) (omega arith) (later k (n - k) s)

  -- a state that has a rank got it in the round of that number, and had none before
  pub record Born (s k : ℕ) : Type 0 where
    pub before : ranks_after g k s ≡ 0
    pub lost : defeated g (ranks_after g k) k s ≡ true

  pub born : (n s k : ℕ) → ranks_after g n s ≡ suc k → Born s k
  unfolding ranks_after
  born zero s k e = absurd (omega arith)
  born (suc n) s k e = by (rounded n s) (born n s k)
    where
      here : n ≡ k → ranks_after g n s ≡ 0 → defeated g (ranks_after g n) n s ≡ true → Born s k
      here q z d = subst (Born s) q (record { before = z; lost = d })

      by : Rounded n s → (ranks_after g n s ≡ suc k → Born s k) → Born s k
      by (kept h f) ih = ih (sym f ∙ e)
      by (given z d f) ih = here (omega arith) z d
      by (passed z d f) ih = absurd (omega arith)

  -- a state that has no rank after n rounds was defeated in none of them
  pub undefeated : (n s j : ℕ) → ranks_after g n s ≡ 0 → j < n → defeated g (ranks_after g j) j s ≡ false
  undefeated n s j e h = by (rounded j s) (later_than (suc j) n s h)
    where
      by : Rounded j s → Later (suc j) n s → defeated g (ranks_after g j) j s ≡ false
      by (kept l f) (stays m q) = absurd (omega arith)
      by (kept l f) (none z q) = absurd (omega arith)
      by (kept l f) (after z q) = absurd (omega arith)
      by (given z d f) (stays m q) = absurd (omega arith)
      by (given z d f) (none y q) = absurd (omega arith)
      by (given z d f) (after y q) = absurd (omega arith)
      by (passed z d f) l = d

  -- a round changes nothing
  unfoldable pub Still : ℕ → Type 0
  Still n = (s : ℕ) → s < g.states → ranks_after g (suc n) s ≡ ranks_after g n s

module _ (g : Game) (proper : Proper g) where
  -- defeat looks only at which states are ranked
  pub defeated_same : (ranks other : ℕ → ℕ) (k j s : ℕ) → ((t : ℕ) → t < g.states → not_ranked ranks k t ≡ not_ranked other j t)
      → defeated g ranks k s ≡ defeated g other j s
  unfolding defeated safe
  defeated_same ranks other k j s e =
      ap not (every_same _ _ g.readings (λ r h. answered_same g (not_ranked ranks k) (not_ranked other j) s r (λ c. e _ (proper.leads s r c))))

  still_next : (n : ℕ) → Still g n → Still g (suc n)
  unfolding Still
  still_next n still s h = by (rounded g (suc n) s)
    where
      same : (t : ℕ) → t < g.states → not_ranked (ranks_after g (suc n)) (suc n) t ≡ not_ranked (ranks_after g n) n t
      same t l = not_ranked_now g (suc n) t ∙ ap (λ (m : ℕ). not (ltb 0 m)) (still t l) ∙ sym (not_ranked_now g n t)

      again : defeated g (ranks_after g (suc n)) (suc n) s ≡ defeated g (ranks_after g n) n s
      again = defeated_same (ranks_after g (suc n)) (ranks_after g n) (suc n) n s same

      never : ranks_after g (suc n) s ≡ 0 → defeated g (ranks_after g (suc n)) (suc n) s ≡ true → Rounded g n s → ⊥
      never z d (kept l f) = omega arith
      never z d (given y e f) = omega arith
      never z d (passed y e f) = true≢false (sym d ∙ again ∙ e)

      by : Rounded g (suc n) s → ranks_after g (suc (suc n)) s ≡ ranks_after g (suc n) s
      by (kept l f) = f
      by (given z d f) = absurd (never z d (rounded g n s))
      by (passed z d f) = f ∙ sym z

  still_on : (n d : ℕ) → Still g n → Still g (d + n)
  still_on n zero still = rw zero-add still
  still_on n (suc d) still = rw suc-add (still_next (d + n) (still_on n d still))

  -- after a round that changes nothing the ranks stay what they are
  unchanged_on : (n d s : ℕ) → Still g n → s < g.states → ranks_after g (d + n) s ≡ ranks_after g n s
  unfolding Still
  unchanged_on n zero s still h = rw zero-add
  unchanged_on n (suc d) s still h = rw suc-add (later_same (still_on n d still) ∙ unchanged_on n d s still h)
    where
      later_same : Still g (d + n) → ranks_after g (suc (d + n)) s ≡ ranks_after g (d + n) s
      later_same again = again s h

  pub still_ranks : (n s : ℕ) → Still g n → n ≤ g.states → s < g.states → ranks_after g n s ≡ rank g s
  unfolding rank
  still_ranks n s still l h = sym (unchanged_on n (g.states - n) s still h)
      ∙ ap (λ (m : ℕ). ranks_after g m s) {x = g.states - n + n} {y = g.states} (omega arith)

  -- how many states have a rank after n rounds
  ranked_count : ℕ → ℕ
  ranked_count n = count (λ s. ltb 0 (ranks_after g n s)) g.states

  -- a round that changes something ranks one more state
  ranks_more : (n s : ℕ) → s < g.states → ¬ (ranks_after g (suc n) s ≡ ranks_after g n s) → ranked_count n < ranked_count (suc n)
  unfolding ranked_count
  ranks_more n s h changed = by (rounded g n s)
    where
      keep : (i : ℕ) → i < g.states → ltb 0 (ranks_after g n i) ≡ true → ltb 0 (ranks_after g (suc n) i) ≡ true
      keep i l e = go (rounded g n i)
        where
          go : Rounded g n i → ltb 0 (ranks_after g (suc n) i) ≡ true
          go (kept m f) = rw f e
          go (given z d f) = absurd (omega (arith, ltb-true 0 (ranks_after g n i) e))
          go (passed z d f) = absurd (omega (arith, ltb-true 0 (ranks_after g n i) e))

      by : Rounded g n s → count (λ i. ltb 0 (ranks_after g n i)) g.states < count (λ i. ltb 0 (ranks_after g (suc n) i)) g.states
      by (kept l f) = absurd (changed f)
      by (given z d f) = count_grows _ _ g.states s keep h (le-ltb 0 (ranks_after g n s) (omega arith)) (lt-ltb 0 (ranks_after g (suc n) s) (omega arith))
      by (passed z d f) = absurd (changed (f ∙ sym z))

  -- some round before n changed nothing, or n states have a rank
  still_or_many : (n : ℕ) → ((j : ℕ) × (j < n) × Still g j) ⊎ (n ≤ ranked_count n)
  unfolding Still
  still_or_many zero = inr (omega arith)
  still_or_many (suc n) = by (still_or_many n) (every (λ s. eqb (ranks_after g (suc n) s) (ranks_after g n s)) g.states) refl
    where
      changes : every (λ s. eqb (ranks_after g (suc n) s) (ranks_after g n s)) g.states ≡ false → n ≤ ranked_count n → suc n ≤ ranked_count (suc n)
      changes e m =
          let (s, h, f) = every-fails _ _ e in
          let one : ranked_count n < ranked_count (suc n) = ranks_more n s h (eqb-false _ _ f) in
          omega arith

      by : ((j : ℕ) × (j < n) × ((s : ℕ) → s < g.states → ranks_after g (suc j) s ≡ ranks_after g j s)) ⊎ (n ≤ ranked_count n) → (t : Bool)
          → every (λ s. eqb (ranks_after g (suc n) s) (ranks_after g n s)) g.states ≡ t
          → ((j : ℕ) × (j < suc n) × ((s : ℕ) → s < g.states → ranks_after g (suc j) s ≡ ranks_after g j s)) ⊎ (suc n ≤ ranked_count (suc n))
      by (inl (j, h, still)) t e = inl (j, omega arith, still)
      by (inr m) true e = inl (n, omega arith, λ s h. eqb-true _ _ (every_at _ _ s e h))
      by (inr m) false e = inr (changes e m)

  -- as many rounds as there are states suffice: one more changes nothing
  pub rounds_suffice : Still g g.states
  unfolding Still ranked_count
  rounds_suffice = by (still_or_many g.states)
    where
      by : ((j : ℕ) × (j < g.states) × ((s : ℕ) → s < g.states → ranks_after g (suc j) s ≡ ranks_after g j s)) ⊎ (g.states ≤ ranked_count g.states)
          → (s : ℕ) → s < g.states → ranks_after g (suc g.states) s ≡ ranks_after g g.states s
      by (inl w) s h = subst (Still g) (omega (arith, w.1)) (still_on w.0 (g.states - w.0) w.2) s h
      by (inr m) s h = go (rounded g g.states s)
        where
          positive : 0 < ranks_after g g.states s
          positive = ltb-true _ _ (count_full _ g.states s m h)

          go : Rounded g g.states s → ranks_after g (suc g.states) s ≡ ranks_after g g.states s
          go (kept l f) = f
          go (given z d f) = absurd (omega (arith, positive))
          go (passed z d f) = absurd (omega (arith, positive))
