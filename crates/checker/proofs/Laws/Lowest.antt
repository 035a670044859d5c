-- The searches for the lowest broken place find what the statements say (01, "The numbers", 15). Assumes nothing.
use Prim.Native.Nat.{ℕ, ◌+◌, ◌*◌, ◌/◌, ◌%◌, ◌^◌, ◌<◌, ◌≤◌}
use native.Mathlib.Omega.{arith}
use native.Mathlib.Nat.{mod-lt, div-add-mod', div-lt_iff_lt-mul}
use mathlib.Core.Bool.{Bool, true, false, true≢false}
use mathlib.Core.List.{List}
use mathlib.Core.Path.{◌≡◌, refl, sym, ap, ap₂, ◌∙◌}
use borrow.Author.Tests.{ltb-true, ltb-false, lt-ltb}
use lib.Arith.{digits_lt, digits_div, digits_mod}
use lib.Dec.{ltb}
use lib.Pow.{pow_pos}
use Rattle.below.specs.Least.{least}
use Rattle.below.proofs.Laws.Least.{least_holds, least-before, least-is}
use Rattle.below.proofs.Laws.Says.{fails-test}
use Rattle.circuit.specs.Circuit.{Circuit, latch_count, uncontrollable_count}
use Rattle.game.specs.Attack.{attack_broken}
use Rattle.game.specs.CircuitGame.{circuit_game}
use Rattle.game.specs.Reply.{reply_broken}
use Rattle.checker.specs.Lowest.{LowestReply, LowestAttack}
use Rattle.checker.specs.Rules.{broken_reply, some_reply_broken, broken_attack, some_attack_broken}
use Rattle.checker.specs.StoredFor.{held_at, reply_at, rank_at, attack_at}
use Rattle.checker.proofs.Laws.Breaks.{reply_breaks, attack_breaks}

-- a test that fails below a place holds at none below it
not_below : (p : ℕ → Bool) (n i : ℕ) → p i ≡ true → least p n ≤ i
not_below p n i e = by (ltb i (least p n)) refl
  where
    by : (b : Bool) → ltb i (least p n) ≡ b → least p n ≤ i
    by true f = absurd (true≢false (sym e ∙ least-before p n i (ltb-true _ _ f)))
    by false f = ltb-false _ _ f

module _ (c : Circuit) (region : List ℕ) (kind : ℕ) (table : List ℕ) where
  abbrev m : ℕ
  m = 2 ^ latch_count c

  abbrev n : ℕ
  n = 2 ^ uncontrollable_count c

  abbrev broken : ℕ → ℕ → Bool
  broken = reply_broken (circuit_game c) (held_at c region) (reply_at c kind table)

  abbrev flat : ℕ → Bool
  flat i = broken (i / n) (i % n)

  flat-is : (s r : ℕ) → r < n → flat (s * n + r) ≡ broken s r
  flat-is s r h = ap₂ broken (digits_div s h) (digits_mod s h)

  state_of : (i : ℕ) → i < m * n → i / n < m
  state_of i h = (div-lt_iff_lt-mul (pow_pos (uncontrollable_count c))).1 h

  reading_of : (i : ℕ) → i % n < n
  reading_of i = mod-lt i (pow_pos (uncontrollable_count c))

  pub lowest_reply : some_reply_broken c region kind table ≡ true → LowestReply c region kind table (broken_reply c region kind table)
  unfolding broken_reply circuit_game
  lowest_reply e =
      let i : ℕ = least flat (m * n) in
      let h : i < m * n = ltb-true _ _ e in
      record {
        state = i / n;
        reading = i % n;
        is_state = state_of i h;
        is_reading = reading_of i;
        at = sym (div-add-mod' i n);
        breaks = (reply_breaks c region kind table (i / n) (i % n) (state_of i h)).0 (least_holds flat (m * n) h);
        lowest = λ s r state reading b. not_below flat (m * n) (s * n + r) (flat-is s r reading ∙ (reply_breaks c region kind table s r state).1 b);
      }

  pub reply_lowest :
      (place : ℕ) → LowestReply c region kind table place
      → (some_reply_broken c region kind table ≡ true) × (broken_reply c region kind table ≡ place)
  unfolding broken_reply circuit_game
  reply_lowest place w = (lt-ltb (least flat (m * n)) (m * n) (omega (arith, is, below)), is)
    where
      below : place < m * n
      below = omega (arith, w.at, digits_lt {q = w.state} {m = m} {r = w.reading} {c = n} w.is_state w.is_reading)

      there : flat place ≡ true
      there =
          ap flat w.at ∙ flat-is w.state w.reading w.is_reading
          ∙ (reply_breaks c region kind table w.state w.reading w.is_state).1 w.breaks

      before : (j : ℕ) → j < place → flat j ≡ false
      before j h =
          let state : j / n < m = state_of j (omega (arith, h, below)) in
          fails-test (flat j) (reply_breaks c region kind table (j / n) (j % n) state)
          (λ b. omega (arith, h, w.lowest (j / n) (j % n) state (reading_of j) b, div-add-mod' j n))

      is : least flat (m * n) ≡ place
      is = least-is flat (m * n) place below there before

module _ (c : Circuit) (table : List ℕ) where
  abbrev lost : ℕ → Bool
  lost = attack_broken (circuit_game c) (rank_at c table) (attack_at c table)

  pub lowest_attack : some_attack_broken c table ≡ true → LowestAttack c table (broken_attack c table)
  unfolding broken_attack circuit_game
  lowest_attack e =
      let n : ℕ = 2 ^ latch_count c in
      let h : least lost n < n = ltb-true _ _ e in
      record {
        is_state = h;
        breaks = (attack_breaks c table (least lost n)).0 (least_holds lost n h);
        lowest = λ s state b. not_below lost n s ((attack_breaks c table s).1 b);
      }

  pub attack_lowest : (place : ℕ) → LowestAttack c table place → (some_attack_broken c table ≡ true) × (broken_attack c table ≡ place)
  unfolding broken_attack circuit_game
  attack_lowest place w = (lt-ltb (least lost (2 ^ latch_count c)) (2 ^ latch_count c) (omega (arith, is, w.is_state)), is)
    where
      before : (j : ℕ) → j < place → lost j ≡ false
      before j h = fails-test (lost j) (attack_breaks c table j) (λ b. omega (arith, h, w.lowest j (omega (arith, h, w.is_state)) b))

      is : least lost (2 ^ latch_count c) ≡ place
      is = least-is lost (2 ^ latch_count c) place w.is_state ((attack_breaks c table place).1 w.breaks) before
