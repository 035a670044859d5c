-- A move by its number is the move of a state, a reading and a control; so a control that keeps at a place keeps in the game. Assumes nothing.
use Prim.Native.Nat.{ℕ, ◌+◌, ◌*◌, ◌/◌, ◌%◌, ◌^◌, min, ◌<◌, ◌≤◌}
use native.Mathlib.Omega.{arith}
use native.Mathlib.Decide.{dec_lt}
use native.Mathlib.Nat.{div-lt_iff_lt-mul, mod-lt, mul-le-mul, div-add-mod', mod-eq_of_lt, suc-mul}
use native.Mathlib.Numerals.{add-one}
use mathlib.Core.Bool.{Bool, not}
use mathlib.Core.List.{List}
use mathlib.Core.Path.{◌≡◌, refl, sym, ap, ◌∙◌, subst}
use lib.Arith.{digits_lt}
use lib.Dec.{leb, ltb}
use lib.Pow.{pow_pos, pow_mono}
use borrow.Author.Tests.{lt-ltb, le-ltb, le-leb, lt-leb}
use lib.ListN.{get_or}
use Rattle.std.proofs.Common.{Option}
use Rattle.below.specs.Least.{least, any}
use Rattle.below.proofs.Laws.Least.{least_same}
use Rattle.circuit.specs.Limits.{base}
use Rattle.game.specs.Keeps.{keeps, answered}
use Rattle.game.specs.Rank.{not_ranked, defeats}
use Rattle.net.specs.Move.{move_of}
use Rattle.net.specs.Net.{net_controls, net_readings, net_latches, net_step}
use Rattle.net.specs.Sized.{Sized}
use Rattle.solver.specs.Inner.Answers.{LeastBelow}
use Rattle.solver.specs.Inner.Moves.{move_keeps, place_keeps, places}
use Rattle.game.specs.NetGame.{net_move, net_game}

module _ (net : List ℕ) (set : ℕ → Bool) (s r : ℕ) (state : s < 2 ^ net_latches net) (reading : r < 2 ^ net_readings net) where
  move-is : (k : ℕ) → k < 2 ^ net_controls net
      → move_of (net_latches net) (net_readings net) (net_controls net) s r k ≡ (s * 2 ^ net_readings net + r) * 2 ^ net_controls net + k
  unfolding move_of
  move-is k h = rw (mod-eq_of_lt state, mod-eq_of_lt reading, mod-eq_of_lt h) refl

  pub keeps-move : (k : ℕ) → k < 2 ^ net_controls net → place_keeps net set (s * 2 ^ net_readings net + r) k ≡ keeps (net_game net) set s r k
  unfolding place_keeps move_keeps keeps net_game net_move net_step
  keeps-move k h = ap (move_keeps net set) (sym (move-is k h))

  pub least-move : least (place_keeps net set (s * 2 ^ net_readings net + r)) (2 ^ net_controls net) ≡ least (keeps (net_game net) set s r)
      (2 ^ net_controls net)
  least-move = least_same _ _ (2 ^ net_controls net) keeps-move

-- a reading defeats exactly if no control keeps at its place
pub defeats-place : (net : List ℕ) (ranks : ℕ → ℕ) (k s r m n u : ℕ) → s < 2 ^ net_latches net → r < u → u ≡ 2 ^ net_readings net → n ≡ 2 ^ net_controls net
    → m ≡ least (place_keeps net (not_ranked ranks k) (s * u + r)) (2 ^ net_controls net) → leb n m ≡ defeats (net_game net) ranks k s r
unfolding defeats answered any net_game
defeats-place net ranks k s r m n u h l wide count e = by
    (e ∙ ap (λ (x : ℕ). least (place_keeps net (not_ranked ranks k) (s * x + r)) (2 ^ net_controls net)) wide
    ∙ least-move net (not_ranked ranks k) s r h (omega arith))
  where
    q : ℕ
    q = least (keeps (net_game net) (not_ranked ranks k) s r) (2 ^ net_controls net)

    by : m ≡ q → leb n m ≡ not (ltb q (2 ^ net_controls net))
    by f = elim (dec_lt m n) [
      | yes a ↦ lt-leb n m a ∙ sym (ap not (lt-ltb q (2 ^ net_controls net) (omega arith)))
      | no a ↦ le-leb n m (omega arith) ∙ sym (ap not (le-ltb q (2 ^ net_controls net) (omega arith)))
    ]

-- the place of a state and a reading, and back
pub place_within : (net : List ℕ) (s r u : ℕ) → s < 2 ^ net_latches net → r < u → u ≡ 2 ^ net_readings net → s * u + r < places net
unfolding places
place_within net s r u h l e = subst (λ (x : ℕ). s * u + r < 2 ^ net_latches net * x) e (digits_lt {q = s} {m = 2 ^ net_latches net} {r = r} {c = u} h l)

module _ (net : List ℕ) (p : ℕ) (within : p < places net) where
  pub state_of : p / 2 ^ net_readings net < 2 ^ net_latches net
  unfolding places
  state_of = (div-lt_iff_lt-mul {k = 2 ^ net_readings net} {x = p} {y = 2 ^ net_latches net} (pow_pos (net_readings net))).1 within

  pub reading_of : p % 2 ^ net_readings net < 2 ^ net_readings net
  reading_of = mod-lt p {m = 2 ^ net_readings net} (pow_pos (net_readings net))

  least_place : (set : ℕ → Bool)
      → least (place_keeps net set p) (2 ^ net_controls net) ≡ least (keeps (net_game net) set (p / 2 ^ net_readings net) (p % 2 ^ net_readings net))
      (2 ^ net_controls net)
  least_place set = ap (λ (q : ℕ). least (place_keeps net set q) (2 ^ net_controls net)) (sym (div-add-mod' p (2 ^ net_readings net)))
      ∙ least-move net set (p / 2 ^ net_readings net) (p % 2 ^ net_readings net) state_of reading_of

  pub found_keeps : (set : ℕ → Bool) (found : Option ℕ) → LeastBelow (place_keeps net set p) (2 ^ net_controls net) found
      → LeastBelow (keeps (net_game net) set (p / 2 ^ net_readings net) (p % 2 ^ net_readings net)) (2 ^ net_controls net) found
  found_keeps set found got = record { least = got.least ∙ least_place set; within = got.within }

-- a sized net has no more states, readings and controls than a circuit may have
module _ (net : List ℕ) (sized : Sized net) where
  pub few_states : 2 ^ net_latches net ≤ 2 ^ base.latches
  few_states = pow_mono {i = net_latches net} {j = base.latches} sized.order.states

  pub few_readings_lem : 2 ^ net_readings net ≤ 2 ^ base.uncontrollable
  few_readings_lem = pow_mono {i = net_readings net} {j = base.uncontrollable} sized.few_readings

  pub few_controls_lem : 2 ^ net_controls net ≤ 2 ^ base.controllable
  few_controls_lem = pow_mono {i = net_controls net} {j = base.controllable} sized.few_controls

  pub few_places : places net ≤ 2 ^ base.latches * 2 ^ base.uncontrollable
  unfolding places
  few_places = mul-le-mul few_states few_readings_lem

  -- the moves of a place
  pub few_moves : (p : ℕ) → p < places net → p * 2 ^ net_controls net + 2 ^ net_controls net ≤ 8388608
  few_moves p h = omega (arith, mul-le-mul below few_controls_lem, few_places, next)
    where
      below : p + 1 ≤ 32768
      below = omega (arith, few_places)

      next : (p + 1) * 2 ^ net_controls net ≡ p * 2 ^ net_controls net + 2 ^ net_controls net
      next = ap (λ (n : ℕ). n * 2 ^ net_controls net) (add-one p) ∙ suc-mul p (2 ^ net_controls net)

  pub moves_fit : (p n : ℕ) → p < places net → n ≡ 2 ^ net_controls net → p * n + n ≤ 8388608
  moves_fit p n h e = subst (λ (m : ℕ). p * m + m ≤ 8388608) (sym e) (few_moves p h)

  -- how many there are, by the numbers of the net
  pub controls_are_lem : (n : ℕ) → n ≡ get_or net 0 0 → 2 ^ min n base.latches ≡ 2 ^ net_controls net
  unfolding net_controls
  controls_are_lem n e = ap (λ (m : ℕ). 2 ^ m) {x = min n base.latches} {y = net_controls net} (omega (arith, sized.few_controls))

  pub readings_are_lem : (n : ℕ) → n ≡ get_or net 1 0 → 2 ^ min n base.latches ≡ 2 ^ net_readings net
  unfolding net_readings
  readings_are_lem n e = ap (λ (m : ℕ). 2 ^ m) {x = min n base.latches} {y = net_readings net} (omega (arith, sized.few_readings))

  pub states_are_lem : (n : ℕ) → n ≡ net_latches net → 2 ^ min n base.latches ≡ 2 ^ net_latches net
  states_are_lem n e = ap (λ (m : ℕ). 2 ^ m) {x = min n base.latches} {y = net_latches net} (omega (arith, sized.order.states))
