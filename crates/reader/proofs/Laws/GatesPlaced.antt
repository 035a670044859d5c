-- The gates that rows say, placed: from the operands that are lent to the answer about the gates. Assumes nothing.
use Prim.Native.Nat.{ℕ, ◌+◌, ◌*◌, ◌/◌, ◌<◌, ◌≤◌}
use native.Mathlib.Decide.{dec_lt}
use native.Mathlib.Omega.{arith}
use mathlib.Core.List.{List, [], ◌∷◌, ◌++◌, flat_map}
use Rattle.circuit.specs.Circuit.{Gate}
use mathlib.Core.Path.{◌≡◌, refl, sym, ap, ◌∙◌, subst}
use lib.ListN.{length, take, drop}
use lib.Seq.{take_at}
use borrow.Author.Tests.{lt-ltb, le-ltb}
use Rattle.std.specs.Prelude.{Ok, Err}
use Rattle.below.proofs.Laws.Least.{least_le}
use Rattle.below.proofs.Laws.Table.{length_table}
use Rattle.circuit.specs.Limits.{base}
use Rattle.circuit.specs.Outcome.{taken, refused, refuse_if}
use Rattle.order.specs.Answer.{answer_of, gates_in, places_after}
use Rattle.order.specs.Circle.{meets_itself, lowest_circle}
use Rattle.order.specs.Placing.{order_of}
use Rattle.order.specs.Ordered.{Ordered}
use Rattle.order.specs.Reaches.{Reaches}
use Rattle.order.proofs.Laws.Meets.{below_lowest}
use Rattle.order.proofs.Laws.NoCircle.{no_circle_ordered}
use Rattle.order.proofs.Laws.Placed.{placed-length}
use Rattle.reader.specs.Inner.Few.{Few}
use Rattle.reader.specs.Inner.OrderedAs.{AllPlaced, InOrder}
use Rattle.reader.specs.Inner.Rows.{gate_on, row_gates}
use Rattle.text.specs.GateUses.{definer, uses_of, evaluation}
use Rattle.text.specs.Header.{Header}
use Rattle.text.specs.Numbers.{gate_circle}
use Rattle.text.specs.Stages.{circled}

lowest_within : (uses : List ℕ) (n : ℕ) → lowest_circle uses n ≤ n
unfolding lowest_circle
lowest_within uses n = least_le (meets_itself uses n) n

-- two numbers for each gate
length_pairs : {A : Type 0} (a b : A → ℕ) (xs : List A) → length (flat_map (λ x. a x ∷ b x ∷ []) xs) ≡ 2 * length xs
unfolding flat_map
length_pairs a b [] = refl
length_pairs a b (x ∷ xs) = omega (arith, length_pairs a b xs)

module _ (h : Header) (rows : List (List ℕ)) where
  abbrev graph : List ℕ
  graph = uses_of (row_gates h rows)

  many : length (row_gates h rows) ≡ h.gates
  many = length_table (λ i. gate_on rows (h.inputs + h.latches + 1 + i)) h.gates

  size : length graph ≡ 2 * h.gates
  unfolding uses_of
  size = length_pairs (λ (g : Gate). definer (row_gates h rows) g.left) (λ (g : Gate). definer (row_gates h rows) g.right) (row_gates h rows)
      ∙ ap (λ (n : ℕ). 2 * n) many

  pub circled_none : (place : ℕ) → lowest_circle graph h.gates ≡ h.gates → circled place (row_gates h rows) ≡ taken tt
  unfolding circled refuse_if
  circled_none place e = rw (many, e, le-ltb h.gates h.gates (omega arith))

  circled_lowest : (place : ℕ) → lowest_circle graph h.gates < h.gates
      → circled place (row_gates h rows) ≡ refused gate_circle (place + lowest_circle graph h.gates)
  unfolding circled refuse_if
  circled_lowest place l = rw (many, lt-ltb (lowest_circle graph h.gates) h.gates l)

  module _ (few : Few h) (lent marks order : List ℕ) (are : lent ≡ graph) (m : length marks ≡ base.variable)
      (o : length order ≡ base.variable) where
    -- as many gates as the header says
    all : gates_in lent marks order ≡ h.gates
    all =
        let half : length lent / 2 ≡ h.gates = omega (arith, ap length are, size) in
        omega (arith, half, m, o, few.gates, few.largest)

    -- what is answered of the gates
    says : answer_of lent (gates_in lent marks order) ≡ answer_of graph h.gates
    says = λ x. answer_of (are x) (all x)

    pub in_order : (u : Unit {0}) (after : List ℕ) → Ok u ≡ answer_of lent (gates_in lent marks order) → after ≡ places_after lent marks order
        → AllPlaced h rows after
    unfolding answer_of evaluation
    in_order u after answer places = elim (dec_lt (lowest_circle graph h.gates) h.gates) [
      | yes l ↦ let no : Ok u ≡ Err (lowest_circle graph h.gates) = answer ∙ says ∙ rw (lt-ltb (lowest_circle graph h.gates) h.gates l) in cc
      | no l ↦ record {
        none = omega (arith, lowest_within graph h.gates);
        placed = ap (take h.gates) holds ∙ take_at (order_of graph h.gates) (drop h.gates order) h.gates (placed-length graph h.gates)
            ∙ ap (order_of graph) (sym many);
      }
    ]
      where
        holds : after ≡ order_of graph h.gates ++ drop h.gates order
        holds = places ∙ λ x. order_of (are x) (all x) ++ drop (all x) order

    pub in_circle : (gate : ℕ) → Err gate ≡ answer_of lent (gates_in lent marks order)
        → (gate < h.gates) × (circled (3 + h.inputs + h.latches) (row_gates h rows) ≡ refused gate_circle (3 + h.inputs + h.latches + gate))
    unfolding answer_of
    in_circle gate answer = elim (dec_lt (lowest_circle graph h.gates) h.gates) [
      | yes l ↦ found l (let no : Err gate ≡ Err (lowest_circle graph h.gates) = answer ∙ says ∙ rw (lt-ltb (lowest_circle graph h.gates) h.gates l) in cc)
      | no l ↦ let no : Err gate ≡ Ok tt = answer ∙ says ∙ rw (le-ltb (lowest_circle graph h.gates) h.gates (omega arith)) in cc
    ]
      where
        found : lowest_circle graph h.gates < h.gates → gate ≡ lowest_circle graph h.gates
            → (gate < h.gates) × (circled (3 + h.inputs + h.latches) (row_gates h rows) ≡ refused gate_circle (3 + h.inputs + h.latches + gate))
        found l e = (omega arith, circled_lowest (3 + h.inputs + h.latches) l ∙ ap (λ (g : ℕ). refused gate_circle (3 + h.inputs + h.latches + g)) (sym e))

-- where no gate reaches itself, the places hold an order of evaluation
pub placed_ordered : (h : Header) (rows : List (List ℕ)) (order : List ℕ) → AllPlaced h rows order → InOrder (take h.gates order) h.gates
unfolding evaluation
placed_ordered h rows order w =
    record {
      uses = graph h rows;
      ordered = subst (Ordered (graph h rows) h.gates) (sym (w.placed ∙ ap (order_of (graph h rows)) (many h rows)))
          (no_circle_ordered (graph h rows) h.gates never);
    }
  where
    never : (i : ℕ) → i < h.gates → Reaches (graph h rows) h.gates i i → ⊥
    never i l r = below_lowest (graph h rows) h.gates i (omega (arith, w.none)) r
