-- Which gates a gate uses (02, T-01): the first that defines an operand's variable, and none where the operand is a constant or no gate defines it.
-- Assumes nothing.
use Prim.Native.Nat.{ℕ, zero, suc, ◌+◌, ◌*◌, ◌<◌, ◌≤◌}
use native.Mathlib.Omega.{arith}
use native.Mathlib.Decide.{dec_lt}
use native.Mathlib.Nat.{not-suc-le-zero, le_of_suc-le-suc}
use mathlib.Core.Bool.{Bool, true, false, true≢false}
use mathlib.Core.List.{List, [], ◌∷◌, flat_map}
use mathlib.Core.Path.{◌≡◌, refl, sym, ap, ◌∙◌, subst}
use lib.Dec.{eqb, ltb}
use lib.ListN.{length, get_or}
use borrow.Author.Tests.{ltb-false, le-ltb, eqb-true, eq-eqb}
use Rattle.below.specs.Least.{least}
use Rattle.below.proofs.Laws.Least.{least_holds, least-before}
use Rattle.circuit.specs.Circuit.{Gate, gate_at}
use Rattle.circuit.specs.Literal.{variable, constant}
use Rattle.order.specs.Uses.{Uses, as_first, as_second, first_of, second_of}
use Rattle.text.specs.GateUses.{definer, uses_of}

abbrev pub no_gate : Gate
no_gate = record { own = 0; left = 0; right = 0 }

abbrev pub gate_variable : Gate → ℕ
gate_variable g = variable g.own

-- gate j is the first that defines a literal's variable
pub record Defines (gates : List Gate) (l j : ℕ) : Type 0 where
  pub within : j < length gates
  pub literal : 2 ≤ l
  pub is : gate_variable (gate_at gates j) ≡ variable l
  pub first : (m : ℕ) → gate_variable (gate_at gates m) ≡ variable l → j ≤ m

module _ (gates : List Gate) (l : ℕ) where
  abbrev test : ℕ → Bool
  test j = eqb (gate_variable (gate_at gates j)) (variable l)

  abbrev n : ℕ
  n = length gates

  pub definer-defines : (j : ℕ) → definer gates l ≡ j → j < n → Defines gates l j
  unfolding definer constant
  definer-defines j e h = by (ltb l 2) refl
    where
      by : (t : Bool) → ltb l 2 ≡ t → Defines gates l j
      by true c = let past : n ≡ j = (rw c at e) in absurd (omega (arith, past, h))
      by false c =
          let here : least test n ≡ j = (rw c at e) in
          let found : least test n < n = omega (arith, here, h) in
          record {
            within = h;
            literal = ltb-false l 2 c;
            is = subst (λ (k : ℕ). gate_variable (gate_at gates k) ≡ variable l) here (eqb-true _ _ (least_holds test n found));
            first = λ m same. elim (dec_lt m (least test n)) [
              | yes b ↦ absurd (true≢false (sym (eq-eqb (gate_variable (gate_at gates m)) (variable l) same) ∙ least-before test n m b))
              | no b ↦ omega (arith, b, here)
            ];
          }

  -- where a gate defines it, there is a first
  pub some_defines : (m : ℕ) → 2 ≤ l → m < n → gate_variable (gate_at gates m) ≡ variable l → Defines gates l (definer gates l)
  unfolding definer constant
  some_defines m two h same =
      let plain : definer gates l ≡ least test n = (rw (le-ltb l 2 two)) in
      let found : least test n ≤ m = elim (dec_lt m (least test n)) [
        | yes b ↦ absurd (true≢false (sym (eq-eqb (gate_variable (gate_at gates m)) (variable l) same) ∙ least-before test n m b))
        | no b ↦ omega (arith, b)
      ] in
      definer-defines (definer gates l) refl (omega (arith, plain, found, h))

-- two numbers for each, by place
module _ (a b : Gate → ℕ) (d : Gate) where
  two_each : Gate → List ℕ
  two_each g = a g ∷ b g ∷ []

  first_at : (gs : List Gate) (i e : ℕ) → i < length gs → get_or (flat_map two_each gs) (2 * i) e ≡ a (get_or gs i d)
  unfolding flat_map two_each
  first_at [] i e h = absurd (not-suc-le-zero h)
  first_at (g ∷ gs) zero e h = refl
  first_at (g ∷ gs) (suc i) e h =
      let two : 2 * suc i ≡ suc (suc (2 * i)) = omega arith in
      ap (λ (k : ℕ). get_or (a g ∷ b g ∷ flat_map two_each gs) k e) two ∙ first_at gs i e (le_of_suc-le-suc h)

  second_at : (gs : List Gate) (i e : ℕ) → i < length gs → get_or (flat_map two_each gs) (2 * i + 1) e ≡ b (get_or gs i d)
  unfolding flat_map two_each
  second_at [] i e h = absurd (not-suc-le-zero h)
  second_at (g ∷ gs) zero e h = refl
  second_at (g ∷ gs) (suc i) e h =
      let two : 2 * suc i + 1 ≡ suc (suc (2 * i + 1)) = omega arith in
      ap (λ (k : ℕ). get_or (a g ∷ b g ∷ flat_map two_each gs) k e) two ∙ second_at gs i e (le_of_suc-le-suc h)

module _ (gates : List Gate) (i : ℕ) (h : i < length gates) where
  first-used : first_of (uses_of gates) (length gates) i ≡ definer gates (gate_at gates i).left
  unfolding uses_of gate_at two_each
  first-used = first_at (λ g. definer gates g.left) (λ g. definer gates g.right) no_gate gates i (length gates) h

  second-used : second_of (uses_of gates) (length gates) i ≡ definer gates (gate_at gates i).right
  unfolding uses_of gate_at two_each
  second-used = second_at (λ g. definer gates g.left) (λ g. definer gates g.right) no_gate gates i (length gates) h

  -- an operand that a gate defines is used
  pub left_used : (j : ℕ) → Defines gates (gate_at gates i).left j → definer gates (gate_at gates i).left ≡ j → Uses (uses_of gates) (length gates) i j
  left_used j d e = as_first d.within (first-used ∙ e)

  pub right_used : (j : ℕ) → Defines gates (gate_at gates i).right j → definer gates (gate_at gates i).right ≡ j → Uses (uses_of gates) (length gates) i j
  right_used j d e = as_second d.within (second-used ∙ e)

  -- and what is used defines an operand
  pub data UsedAs (j : ℕ) : Type 0 where
    as_left : Defines gates (gate_at gates i).left j → UsedAs j
    as_right : Defines gates (gate_at gates i).right j → UsedAs j

  pub used_as : (j : ℕ) → Uses (uses_of gates) (length gates) i j → UsedAs j
  used_as j (as_first below e) = as_left (definer-defines gates (gate_at gates i).left j (sym first-used ∙ e) below)
  used_as j (as_second below e) = as_right (definer-defines gates (gate_at gates i).right j (sym second-used ∙ e) below)
