-- The tests for a broken step rule say what their statements say (01, "The numbers", 15). Assumes nothing.
use Prim.Native.Nat.{ℕ, ◌-◌, ◌^◌, ◌<◌}
use native.Mathlib.Omega.{arith}
use mathlib.Core.Bool.{Bool, true, false, not, ◌&&◌, true≢false}
use mathlib.Core.List.{List}
use mathlib.Core.Logic.{◌↔◌}
use mathlib.Core.Path.{◌≡◌, refl, sym, ap, ◌∙◌}
use borrow.Author.Tests.{ltb-true, ltb-false, lt-ltb, le-ltb}
use lib.Dec.{ltb}
use Rattle.below.proofs.Laws.Says.{test-fails, fails-test}
use Rattle.bits.proofs.Laws.Bytes.{both_true}
use Rattle.circuit.specs.Circuit.{Circuit, latch_count, uncontrollable_count, controllable_count}
use Rattle.game.specs.Attack.{attack_broken}
use Rattle.game.specs.CircuitGame.{circuit_game}
use Rattle.game.specs.Game.{Game}
use Rattle.game.specs.Keeps.{Keeps, keeps, answered}
use Rattle.game.specs.Rank.{not_ranked, defeats}
use Rattle.game.specs.Reply.{reply_broken}
use Rattle.game.proofs.Laws.CircuitGame.{circuit_proper}
use Rattle.game.proofs.Laws.Keeps.{answered-by, answers}
use Rattle.game.proofs.Laws.Rank.{ranked_is, is_ranked}
use Rattle.step.specs.Step.{step}
use Rattle.checker.specs.Breaks.{ReplyBreaks, no_control, errs, leads_out, RankFalls, AttackBreaks, no_reading, escapes}
use Rattle.checker.specs.StoredFor.{held_at, reply_at, rank_at, attack_at}
use Rattle.checker.specs.StoredRegion.{Holds}
use Rattle.checker.proofs.Laws.WrongTables.{holds_state_lem}

-- a state of a set whose reply is no control, errs, or leads out
data Fails (below error held : Bool) : Type 0 where
  above : below ≡ false → Fails below error held
  one : error ≡ true → Fails below error held
  out : held ≡ false → Fails below error held

fails : (below error held : Bool) → not (below && (not error && held)) ≡ true → Fails below error held
fails false error held e = above refl
fails true true held e = one refl
fails true false false e = out refl
fails true false true e = absurd (true≢false (sym e))

of_fails : (below error held : Bool) → Fails below error held → not (below && (not error && held)) ≡ true
of_fails false error held f = refl
of_fails true true held f = refl
of_fails true false false f = refl
of_fails true false true (above e) = absurd (true≢false e)
of_fails true false true (one e) = absurd (true≢false (sym e))
of_fails true false true (out e) = absurd (true≢false e)

module _ (c : Circuit) (region : List ℕ) (kind : ℕ) (table : List ℕ) (s r : ℕ) (state : s < 2 ^ latch_count c) where
  abbrev L : ℕ
  L = latch_count c

  abbrev set : ℕ → Bool
  set = held_at c region

  abbrev k : ℕ
  k = reply_at c kind table s r

  leads : (step c s r k).next < 2 ^ L
  unfolding circuit_game
  leads = (circuit_proper c).leads s r k

  abbrev Faulty : Type 0
  Faulty = Fails (ltb k (2 ^ controllable_count c)) (step c s r k).error (set (step c s r k).next)

  abbrev good : Bool
  good = ltb k (2 ^ controllable_count c) && (not (step c s r k).error && set (step c s r k).next)

  pub reply_breaks : (reply_broken (circuit_game c) (held_at c region) (reply_at c kind table) s r ≡ true) ↔ ReplyBreaks c region kind table s r
  unfolding reply_broken circuit_game keeps
  reply_breaks = (λ e. let (held, fault) = both_true (set s) _ e in to ((holds_state_lem region L s state).0 held) (fails _ _ _ fault), back)
    where
      to : Holds region s → Faulty → ReplyBreaks c region kind table s r
      to held (above e) = no_control held (ltb-false _ _ e)
      to held (one e) = errs held e
      to held (out e) = leads_out held (test-fails _ (holds_state_lem region L (step c s r k).next leads) e)

      with_held : Holds region s → Faulty → (set s && not good) ≡ true
      with_held held f = ap (λ (b : Bool). b && not good) ((holds_state_lem region L s state).1 held) ∙ of_fails _ _ _ f

      back : ReplyBreaks c region kind table s r → (set s && not good) ≡ true
      back (no_control held h) = with_held held (above (le-ltb _ _ h))
      back (errs held e) = with_held held (one e)
      back (leads_out held o) = with_held held (out (fails-test _ (holds_state_lem region L (step c s r k).next leads) o))

-- a state whose attack is no reading, or is answered
data Answered (below answer : Bool) : Type 0 where
  over : below ≡ false → Answered below answer
  some : answer ≡ true → Answered below answer

answer_of_lem : (below answer : Bool) → not (below && not answer) ≡ true → Answered below answer
answer_of_lem false answer e = over refl
answer_of_lem true true e = some refl
answer_of_lem true false e = absurd (true≢false (sym e))

of_answer : (below answer : Bool) → Answered below answer → not (below && not answer) ≡ true
of_answer false answer a = refl
of_answer true true a = refl
of_answer true false (over e) = absurd (true≢false e)
of_answer true false (some e) = absurd (true≢false (sym e))

module _ (c : Circuit) (table : List ℕ) (s : ℕ) where
  abbrev ranks : ℕ → ℕ
  ranks = rank_at c table

  abbrev r : ℕ
  r = attack_at c table s

  abbrev out_of : ℕ → Bool
  out_of = not_ranked ranks (ranks s - 1)

  -- a state isn't of rank 1 to k − 1
  not-falls : 0 < ranks s → (t : ℕ) → out_of t ≡ true → RankFalls c table s t → ⊥
  not-falls h t e f = true≢false (sym e ∙ is_ranked ranks (ranks s - 1) t f.0 (omega (arith, f.1)))

  falls-not : 0 < ranks s → (t : ℕ) → (RankFalls c table s t → ⊥) → out_of t ≡ true
  falls-not h t other = by (out_of t) refl
    where
      by : (b : Bool) → out_of t ≡ b → out_of t ≡ true
      by true e = e
      by false e = let (low, high) = ranked_is ranks (ranks s - 1) t e in absurd (other (low, omega (arith, h, high)))

  abbrev Lost : Type 0
  Lost = Answered (ltb r (2 ^ uncontrollable_count c)) (answered (circuit_game c) out_of s r)

  abbrev sound : Bool
  sound = ltb r (2 ^ uncontrollable_count c) && not (answered (circuit_game c) out_of s r)

  pub attack_breaks : (attack_broken (circuit_game c) (rank_at c table) (attack_at c table) s ≡ true) ↔ AttackBreaks c table s
  unfolding attack_broken defeats circuit_game Keeps
  attack_breaks = (λ e. let (ranked, fault) = both_true (ltb 0 (ranks s)) _ e in to (ltb-true _ _ ranked) (answer_of_lem _ _ fault), back)
    where
      g : Game
      g = circuit_game c

      to : 0 < ranks s → Lost → AttackBreaks c table s
      to h (over e) = no_reading h (ltb-false _ _ e)
      to h (some e) = let (j, below, keep) = answered-by g out_of s r e in escapes h j below keep.0 (not-falls h _ keep.1)

      with_rank : 0 < ranks s → Lost → (ltb 0 (ranks s) && not sound) ≡ true
      with_rank h a = ap (λ (b : Bool). b && not sound) (lt-ltb _ _ h) ∙ of_answer _ _ a

      back : AttackBreaks c table s → (ltb 0 (ranks s) && not sound) ≡ true
      back (no_reading h l) = with_rank h (over (le-ltb _ _ l))
      back (escapes h j below e o) = with_rank h (some (answers g out_of s r j below (e, falls-not h _ o)))
