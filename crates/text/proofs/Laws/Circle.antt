-- 16 (02, T-01): gates are taken exactly if none reaches itself through gates, and refused at the lowest line of one that does. Assumes nothing.
use Prim.Native.Nat.{ℕ, ◌+◌, ◌<◌, ◌≤◌}
use native.Mathlib.Omega.{arith}
use native.Mathlib.Decide.{dec_lt}
use mathlib.Core.Bool.{Bool, true, false}
use mathlib.Core.List.{List}
use mathlib.Core.Path.{◌≡◌, refl, sym}
use lib.Dec.{ltb}
use lib.ListN.{length}
use borrow.Author.Tests.{ltb-true, ltb-false, lt-ltb, le-ltb}
use Rattle.circuit.specs.Circuit.{Gate}
use Rattle.circuit.specs.Outcome.{Outcome, taken, refused, refuse_if}
use Rattle.order.specs.Circle.{lowest_circle}
use Rattle.order.specs.Reaches.{Reaches, at_once, through}
use Rattle.order.proofs.Laws.Meets.{uses_below, lowest_reaches, below_lowest, no_circle_lowest}
use Rattle.text.specs.Circle.{Circle}
use Rattle.text.specs.GateUses.{uses_of}
use Rattle.text.specs.Numbers.{gate_circle}
use Rattle.text.specs.Stages.{circled}
use Rattle.text.specs.WellFormed.{ReachesItself}
use Rattle.text.proofs.Laws.Outcome.{taken_is-not_refused, refuse_none, refused_number, refused_place}

-- what is reached is a gate
pub reaches_below : {uses : List ℕ} {n i j : ℕ} → Reaches uses n i j → j < n
reaches_below (at_once u) = uses_below u
reaches_below (through u r) = reaches_below r

module _ (gates : List Gate) where
  abbrev lowest : ℕ
  lowest = lowest_circle (uses_of gates) (length gates)

  pub circled_none : (start : ℕ) (u : Unit {0}) → circled start gates ≡ taken u → (i : ℕ) → ReachesItself gates i → ⊥
  unfolding circled
  circled_none start u e i r =
      let all : length gates ≤ lowest = ltb-false lowest (length gates) (refuse_none (ltb lowest (length gates)) gate_circle (start + lowest) u e) in
      let within : i < length gates = reaches_below r in
      below_lowest (uses_of gates) (length gates) i (omega (arith, all, within)) r

  pub none_circled : (start : ℕ) → ((i : ℕ) → ReachesItself gates i → ⊥) → circled start gates ≡ taken tt
  unfolding circled refuse_if
  none_circled start never =
      let is : lowest ≡ length gates = no_circle_lowest (uses_of gates) (length gates) (λ i h r. never i r) in
      rw (le-ltb lowest (length gates) (omega (arith, is)))

  pub circled_circle : (start number place : ℕ) → circled start gates ≡ refused number place → Circle start gates number place
  unfolding circled refuse_if
  circled_circle start number place e = by (ltb lowest (length gates)) refl
    where
      by : (t : Bool) → ltb lowest (length gates) ≡ t → Circle start gates number place
      by false f = absurd (taken_is-not_refused number place tt (rw f at e))
      by true f =
          let within : lowest < length gates = ltb-true lowest (length gates) f in
          let same : ◌≡◌ {A = Outcome (Unit {0})} (refused gate_circle (start + lowest)) (refused number place) = (rw f at e) in
          record {
            index = lowest;
            within = within;
            line = sym (refused_place gate_circle (start + lowest) number place same);
            reaches = lowest_reaches (uses_of gates) (length gates) within;
            lowest = λ i h r. elim (dec_lt i lowest) [ yes b ↦ absurd (below_lowest (uses_of gates) (length gates) i b r) | no b ↦ omega (arith, b) ];
            sixteen = sym (refused_number gate_circle (start + lowest) number place same);
          }

  pub circle_circled : (start number place : ℕ) → Circle start gates number place → circled start gates ≡ refused number place
  unfolding circled refuse_if
  circle_circled start number place c =
      let index : ℕ = c.index in
      let within : index < length gates = c.within in
      let from : lowest ≤ index =
      elim (dec_lt index lowest) [ yes b ↦ absurd (below_lowest (uses_of gates) (length gates) index b c.reaches) | no b ↦ omega (arith, b) ] in
      let found : lowest < length gates = omega (arith, from, within) in
      let least : index ≤ lowest = c.lowest lowest found (lowest_reaches (uses_of gates) (length gates) found) in
      let here : start + lowest ≡ place = omega (arith, c.line, from, least) in
      rw (lt-ltb lowest (length gates) found) (λ x. refused (sym c.sixteen x) (here x))
