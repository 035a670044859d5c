-- The search for the lowest gate that reaches itself: none of those passed meets itself. Assumes nothing.
use Prim.Native.Nat.{ℕ, ◌+◌, ◌<◌, ◌≤◌}
use mathlib.Core.Bool.{Bool, true, false}
use mathlib.Core.Path.{◌≡◌, refl, sym, ◌∙◌}
use Rattle.std.specs.Prelude.{Ok, Err}
use Rattle.below.proofs.Laws.Passed.{Passed, passed_start, passed_next, passed_found, passed_end}
use Rattle.order.specs.declared.graph.Gates.{Gates}
use Rattle.order.specs.Answer.{answer_of}
use Rattle.order.specs.Circle.{meets_itself, lowest_circle}
use Rattle.order.specs.Inner.Kept.{Kept, gate_count}
use Rattle.order.proofs.Laws.Answer.{found_circle, found_none}
use Rattle.order.proofs.Laws.Kept.{kept_on}

pub record Searching (before now : Gates) (gate : ℕ) : Type 0 where
  pub kept : Kept before now
  pub passed : Passed (meets_itself before.uses.now (gate_count before)) (gate_count before) gate

pub searching_start : (before : Gates) → Searching before before 0
searching_start before = record { kept = record { uses = refl; marks = refl; order = refl; count = refl }; passed = passed_start _ _ }

module _ (before now : Gates) (gate : ℕ) (s : Searching before now gate) (h : gate < gate_count before) (r : Bool)
    (met : r ≡ meets_itself now.uses.now (gate_count now) gate) where
  is : meets_itself before.uses.now (gate_count before) gate ≡ r
  is = rw (← s.kept.uses, ← s.kept.count) (sym met)

  pub searching_next : r ≡ false → (after : Gates) → Kept now after → Searching before after (gate + 1)
  searching_next e after kept = record { kept = kept_on s.kept kept; passed = passed_next _ _ gate s.passed h (is ∙ e) }

  pub searching_found : r ≡ true → Err gate ≡ answer_of before.uses.now (gate_count before)
  unfolding lowest_circle
  searching_found e = found_circle before.uses.now (gate_count before) gate h (passed_found _ _ gate s.passed h (is ∙ e))

pub searching_end : (before now : Gates) (gate : ℕ) → Searching before now gate → gate_count before ≤ gate
    → Ok tt ≡ answer_of before.uses.now (gate_count before)
unfolding lowest_circle
searching_end before now gate s h = found_none before.uses.now (gate_count before) (passed_end _ _ gate s.passed h)

pub ruleset turns = (searching_start, searching_next, searching_found, searching_end)
