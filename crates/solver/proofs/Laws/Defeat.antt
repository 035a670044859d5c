-- The search for a reading that defeats (01, "The game"), over the places of a state: a place whose kept control still keeps is passed at once.
-- Assumes nothing.
use Prim.Native.Nat.{ℕ, ◌+◌, ◌*◌, ◌-◌, ◌^◌, ◌<◌, ◌≤◌}
use native.Mathlib.Omega.{arith}
use native.Mathlib.Decide.{dec_lt}
use mathlib.Core.Bool.{Bool, true, false, true≢false}
use mathlib.Core.List.{List}
use mathlib.Core.Path.{◌≡◌, refl, sym, ap, ◌∙◌}
use lib.Dec.{leb}
use lib.ListN.{get_or}
use lib.Pow.{pow_pos}
use borrow.Author.Tests.{le-leb, lt-leb, not-true, not-false}
use Rattle.std.proofs.Common.{Option, Some, None, is_some}
use Rattle.below.specs.Least.{least}
use Rattle.below.specs.LeastFrom.{least_from}
use Rattle.below.proofs.Laws.Least.{least-is, least_none}
use Rattle.below.proofs.Laws.LeastFrom.{from_le, from_holds, from_start, from-before}
use Rattle.game.specs.NetGame.{net_game}
use Rattle.game.specs.Rank.{not_ranked, defeats}
use Rattle.keeping.specs.KeptControls.{nothing, still_keeps, fails_in}
use Rattle.keeping.specs.declared.rank_list.KeptControl.{KeptControl}
use Rattle.net.specs.Net.{net_controls, net_readings, net_latches}
use Rattle.solver.specs.Inner.Answers.{LeastBelow}
use Rattle.solver.specs.Inner.Kept.{Kept, Behind}
use Rattle.solver.specs.Inner.Moves.{place_keeps, places}
use Rattle.solver.specs.declared.planes.Slot.{Slot}
use Rattle.solver.proofs.Laws.Kept.{still_least, none_behind}
use Rattle.solver.proofs.Laws.Moves.{defeats-place, place_within}

-- how far a search over the places of state s came: no reading before this place defeats
pub record Passed (net : List ℕ) (ranks : ℕ → ℕ) (k s u p : ℕ) : Type 0 where
  pub started : s * u ≤ p
  pub within : p ≤ s * u + u
  pub none : (r : ℕ) → s * u + r < p → defeats (net_game net) ranks k s r ≡ false

module _ (net : List ℕ) (ranks : ℕ → ℕ) (k s u : ℕ) (state : s < 2 ^ net_latches net) (wide : u ≡ 2 ^ net_readings net) where
  abbrev set : ℕ → Bool
  set = not_ranked ranks k

  pub state_places : s * u + u ≤ places net
  state_places = omega (arith, some, place_within net s (u - 1) u state (omega (arith, some)) wide)
    where
      some : 0 < u
      some = omega (arith, wide, pow_pos (net_readings net))

  pub passed_none : Passed net ranks k s u (s * u)
  passed_none = record { started = omega arith; within = omega arith; none = λ r h. absurd (omega arith) }

  -- a control that still keeps answers the reading
  answered : (kept : List KeptControl) (slots : List Slot) → Kept net set kept slots → (r : ℕ) → r < u
      → still_keeps (get_or kept (s * u + r) nothing) set ≡ true → defeats (net_game net) ranks k s r ≡ false
  answered kept slots all r h e =
      sym (defeats-place net ranks k s r (control.found - 1) (2 ^ net_controls net) u state h wide refl least.least)
      ∙ lt-leb (2 ^ net_controls net) (control.found - 1) (omega (arith, least.within))
    where
      control : KeptControl
      control = get_or kept (s * u + r) nothing

      least : LeastBelow (place_keeps net set (s * u + r)) (2 ^ net_controls net) (Some (control.found - 1))
      least = still_least net set (s * u + r) control (all.at (s * u + r) (place_within net s r u state h wide)) e

  -- from a place on, to the first whose control fails
  module _ (kept : List KeptControl) (slots : List Slot) (all : Kept net set kept slots) (q : ℕ) (passed : Passed net ranks k s u q) where
    abbrev test : ℕ → Bool
    test = fails_in kept set

    none_to : (r : ℕ) → s * u + r < least_from test q (s * u + u) → defeats (net_game net) ranks k s r ≡ false
    none_to r h = elim (dec_lt (s * u + r) q) [ yes l ↦ passed.none r l | no l ↦ later l ]
      where
        later : (s * u + r < q → ⊥) → defeats (net_game net) ranks k s r ≡ false
        later l = answered kept slots all r (omega (arith, from_le test q (s * u + u)))
            (not-false _ (from-before test q (s * u + u) (s * u + r) (omega arith) h))

    -- none does: each reading is answered
    pub reading_none : s * u + u ≡ least_from test q (s * u + u) → LeastBelow (defeats (net_game net) ranks k s) (2 ^ net_readings net) None
    reading_none e = record {
      least = sym (least_none (defeats (net_game net) ranks k s) (2 ^ net_readings net) (λ r l. none_to r (omega (arith, e, wide))));
      within = tt;
    }

    module _ (p : ℕ) (is : p ≡ least_from test q (s * u + u)) (inside : p < s * u + u) where
      pub place_later : q ≤ p
      place_later = omega (arith, from_start test q (s * u + u) (omega (arith, is)))

      pub place_behind : Behind net set p kept
      place_behind = none_behind net set p (get_or kept p nothing) (all.at p (omega (arith, state_places)))
          (not-true _ (ap test is ∙ from_holds test q (s * u + u) (omega (arith, is))))

      pub passed_to : Passed net ranks k s u p
      passed_to = record {
        started = omega (arith, passed.started, place_later);
        within = omega arith;
        none = λ r h. none_to r (omega (arith, is));
      }

  -- the control found at a place decides
  module _ (p : ℕ) (passed : Passed net ranks k s u p) (more : p < s * u + u) where
    decides : (m : ℕ) → m ≡ least (place_keeps net set p) (2 ^ net_controls net)
        → leb (2 ^ net_controls net) m ≡ defeats (net_game net) ranks k s (p - s * u)
    decides m found = defeats-place net ranks k s (p - s * u) m (2 ^ net_controls net) u state (omega (arith, passed.started)) wide refl
        (found ∙ ap at_place back)
      where
        at_place : ℕ → ℕ
        at_place x = least (place_keeps net set x) (2 ^ net_controls net)

        back : p ≡ s * u + (p - s * u)
        back = omega (arith, passed.started)

    pub reading_found : (control : Option ℕ) → is_some control ≡ false → LeastBelow (place_keeps net set p) (2 ^ net_controls net) control
        → LeastBelow (defeats (net_game net) ranks k s) (2 ^ net_readings net) (Some (p - s * u))
    reading_found (Some m) e found = absurd (true≢false e)
    reading_found None e none = record {
      least = sym (least-is (defeats (net_game net) ranks k s) (2 ^ net_readings net) (p - s * u) (omega (arith, wide, passed.started))
          (sym (decides (2 ^ net_controls net) none.least) ∙ le-leb (2 ^ net_controls net) (2 ^ net_controls net) (omega arith))
          (λ r l. passed.none r (omega (arith, passed.started))));
      within = omega (arith, wide, passed.started);
    }

    pub passed_more : (control : Option ℕ) → is_some control ≡ true → LeastBelow (place_keeps net set p) (2 ^ net_controls net) control
        → Passed net ranks k s u (p + 1)
    passed_more None e found = absurd (true≢false (sym e))
    passed_more (Some m) e found = record { started = omega (arith, passed.started); within = omega arith; none = none }
      where
        none : (r : ℕ) → s * u + r < p + 1 → defeats (net_game net) ranks k s r ≡ false
        none r l = elim (dec_lt (s * u + r) p) [
          | yes a ↦ passed.none r a
          | no a ↦ ap (defeats (net_game net) ranks k s) {x = r} {y = p - s * u} (omega (arith, a))
              ∙ sym (decides m found.least) ∙ lt-leb (2 ^ net_controls net) m found.within
        ]
