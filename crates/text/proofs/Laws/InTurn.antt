-- Gates in order of evaluation (02, T-01): they are the gates of the lines, each behind those that it uses, and their lines come back.
-- Assumes nothing.
use Prim.Native.Nat.{ℕ, ◌<◌, ◌≤◌}
use native.Mathlib.Omega.{arith}
use native.Mathlib.Decide.{dec_lt}
use mathlib.Core.List.{List, ◌++◌, map, Memᴰ}
use mathlib.Core.Logic.{◌⊎◌, inl, inr, ◌↔◌, ◌≢◌}
use mathlib.Core.Path.{◌≡◌, refl, sym, ap, ◌∙◌, subst}
use lib.ListN.{length, get_or, take, length-map, get_or-map, get_or-eq_default}
use lib.Seq.{length-take-le, get_or-take}
use Rattle.below.specs.Table.{table}
use Rattle.below.proofs.Laws.Table.{map_table, table_same, table_get_or}
use Rattle.circuit.specs.Circuit.{Gate, gate_at}
use Rattle.circuit.specs.Literal.{variable}
use Rattle.order.specs.Ordered.{Ordered}
use Rattle.order.specs.Uses.{Uses}
use Rattle.order.proofs.Laws.NoCircle.{no_circle_ordered}
use Rattle.order.proofs.Laws.Place.{gate_at-place}
use Rattle.text.specs.Above.{Operands}
use Rattle.text.specs.GateUses.{definer, uses_of, evaluation, evaluated}
use Rattle.text.specs.InList.{All, Pairs, In}
use Rattle.text.specs.WellFormed.{Known, ReachesItself}
use Rattle.text.proofs.Laws.Above.{operands_of_lem}
use Rattle.text.proofs.Laws.GateUses.{gate_variable, no_gate, Defines, some_defines, left_used, right_used}
use Rattle.text.proofs.Laws.Lists.{
  Differ,
  in_at,
  at_in,
  all_in,
  all_are,
  in_left,
  in_right,
  in_cases,
  in_map,
  map_in,
  pairs_left,
  pairs_right,
  pairs_at,
  pairs_of,
  pairs_across,
  pairs_append,
  mem_in,
  in_mem,
}

-- the gates of lines, in order of evaluation
abbrev pub in_turn : List Gate → List Gate
in_turn gates = map (gate_at gates) (evaluation gates)

-- and for each line, where its gate stands in that order
abbrev pub places_in_turn : List Gate → List ℕ
places_in_turn gates = table (evaluated gates) (length gates)

module _ (gates : List Gate) (never : (i : ℕ) → ReachesItself gates i → ⊥) where
  abbrev n : ℕ
  n = length gates

  ordered : Ordered (uses_of gates) n (evaluation gates)
  unfolding evaluation
  ordered = no_circle_ordered (uses_of gates) n (λ i h r. never i r)

  pub turn_long : length (in_turn gates) ≡ n
  turn_long = length-map (evaluation gates) (gate_at gates) ∙ ordered.long

  at_turn : (k : ℕ) → gate_at (in_turn gates) k ≡ gate_at gates (get_or (evaluation gates) k n)
  unfolding gate_at
  at_turn k =
      let past : gate_at gates n ≡ no_gate = get_or-eq_default gates no_gate {n = n} (omega arith) in
      ap (λ (d : Gate). get_or (in_turn gates) k d) (sym past) ∙ get_or-map (gate_at gates) (evaluation gates) k n

  -- the lines come back
  pub lines_back : map (gate_at (in_turn gates)) (places_in_turn gates) ≡ gates
  unfolding evaluated gate_at
  lines_back =
      map_table (gate_at (in_turn gates)) (evaluated gates) n
      ∙ table_same (λ i. gate_at (in_turn gates) (evaluated gates i)) (gate_at gates) n
      (λ i h. at_turn (evaluated gates i) ∙ ap (gate_at gates) (gate_at-place (uses_of gates) n (evaluation gates) ordered i h))
      ∙ table_get_or gates no_gate

  -- they are the same gates
  pub turn_in : (g : Gate) → In (in_turn gates) g → In gates g
  unfolding gate_at
  turn_in g w =
      let (k, h, e) = at_in no_gate (in_turn gates) g w in
      subst (In gates) (sym (at_turn k) ∙ e) (in_at no_gate gates (get_or (evaluation gates) k n) (ordered.within k (omega (arith, h, turn_long))))

  pub in_turn_lem : (g : Gate) → In gates g → In (in_turn gates) g
  unfolding gate_at
  in_turn_lem g w =
      let (i, h, e) = at_in no_gate gates g w in
      let (k, below, is) = ordered.each i h in
      subst (In (in_turn gates)) (at_turn k ∙ ap (gate_at gates) is ∙ e) (in_at no_gate (in_turn gates) k (omega (arith, below, turn_long)))

  pub turn_all : (P : Gate → Type 0) → All P gates → All P (in_turn gates)
  turn_all P a = all_are P (in_turn gates) (λ g i. all_in P gates g a (turn_in g i))

  pub same_members : (g : Gate) → Memᴰ g (in_turn gates) ↔ Memᴰ g gates
  same_members g = (λ m. in_mem gates g (turn_in g (mem_in (in_turn gates) g m)), λ m. in_mem (in_turn gates) g (in_turn_lem g (mem_in gates g m)))

  module _ (sources : List ℕ) where
    -- what is defined stays defined
    pub turn-defines : (v : ℕ) → In (sources ++ map gate_variable gates) v → In (sources ++ map gate_variable (in_turn gates)) v
    turn-defines v w = by (in_cases sources (map gate_variable gates) v w)
      where
        by : In sources v ⊎ In (map gate_variable gates) v → In (sources ++ map gate_variable (in_turn gates)) v
        by (inl u) = in_left sources (map gate_variable (in_turn gates)) v u
        by (inr u) =
            let (g, there, e) = map_in gate_variable gates v u in
            in_right sources (map gate_variable (in_turn gates)) v
            (subst (In (map gate_variable (in_turn gates))) e (in_map gate_variable (in_turn gates) g (in_turn_lem g there)))

    -- an operand of the gate that comes k-th stands above it
    in_front : (k m : ℕ) → k < n → m < k → In (take k (in_turn gates)) (gate_at (in_turn gates) m)
    unfolding gate_at
    in_front k m h below =
        let long : length (take k (in_turn gates)) ≡ k = length-take-le k (in_turn gates) (omega (arith, h, turn_long)) in
        subst (In (take k (in_turn gates))) (get_or-take k (in_turn gates) m no_gate below)
        (in_at no_gate (take k (in_turn gates)) m (omega (arith, below, long)))

    literal_above : (k : ℕ) → k < n → (l : ℕ) → Known (sources ++ map gate_variable gates) l
        → ((j : ℕ) → Defines gates l j → definer gates l ≡ j → Uses (uses_of gates) n (get_or (evaluation gates) k n) j)
        → Known (sources ++ map gate_variable (take k (in_turn gates))) l
    unfolding gate_at
    literal_above k h l (inl small) uses = inl small
    literal_above k h l (inr w) uses =
        elim (dec_lt l 2) [ yes small ↦ inl small | no large ↦ inr (by (omega (arith, large)) (in_cases sources (map gate_variable gates) (variable l) w)) ]
      where
        front : List Gate
        front = take k (in_turn gates)

        by : 2 ≤ l → In sources (variable l) ⊎ In (map gate_variable gates) (variable l) → In (sources ++ map gate_variable front) (variable l)
        by two (inl u) = in_left sources (map gate_variable front) (variable l) u
        by two (inr u) =
            let (g, there, e) = map_in gate_variable gates (variable l) u in
            let (i, below, is) = at_in no_gate gates g there in
            let d : Defines gates l (definer gates l) = some_defines gates l i two below (ap gate_variable is ∙ e) in
            let (m, before, at) = ordered.before k (definer gates l) h (uses (definer gates l) d refl) in
            let name : gate_variable (gate_at (in_turn gates) m) ≡ variable l =
            ap gate_variable (at_turn m ∙ ap (gate_at gates) at) ∙ d.is in
            in_right sources (map gate_variable front) (variable l)
            (subst (In (map gate_variable front)) name (in_map gate_variable front (gate_at (in_turn gates) m) (in_front k m h before)))

    pub turn_above : All (λ (g : Gate). Known (sources ++ map gate_variable gates) g.left × Known (sources ++ map gate_variable gates) g.right) gates
        → Operands sources (in_turn gates)
    unfolding gate_at
    turn_above known = operands_of_lem sources (in_turn gates) (λ k h. subst (Both k) (sym (at_turn k)) (both k (omega (arith, h, turn_long))))
      where
        Both : ℕ → Gate → Type 0
        Both k g =
            Known (sources ++ map gate_variable (take k (in_turn gates))) g.left
            × Known (sources ++ map gate_variable (take k (in_turn gates))) g.right

        both : (k : ℕ) → k < n → Both k (gate_at gates (get_or (evaluation gates) k n))
        both k h =
            let i : ℕ = get_or (evaluation gates) k n in
            let below : i < n = ordered.within k h in
            let (left, right) = all_in (λ (g : Gate). Known (sources ++ map gate_variable gates) g.left
            × Known (sources ++ map gate_variable gates) g.right) gates (gate_at gates i) known (in_at no_gate gates i below) in (
              literal_above k h (gate_at gates i).left left (left_used gates i below),
              literal_above k h (gate_at gates i).right right (right_used gates i below),
            )

    -- and each variable is defined once
    pub turn_once : Pairs Differ (sources ++ map gate_variable gates) → Pairs Differ (sources ++ map gate_variable (in_turn gates))
    unfolding gate_at
    turn_once once =
        pairs_append Differ sources (map gate_variable (in_turn gates)) (pairs_left Differ sources (map gate_variable gates) once)
        (pairs_of Differ (gate_variable no_gate) (map gate_variable (in_turn gates)) apart) across
      where
        at : (gs : List Gate) (k : ℕ) → get_or (map gate_variable gs) k (gate_variable no_gate) ≡ gate_variable (gate_at gs k)
        at gs k = get_or-map gate_variable gs k no_gate

        lesser : (a b : ℕ) → a < b → b < n → gate_variable (gate_at gates a) ≢ gate_variable (gate_at gates b)
        lesser a b h below e =
            pairs_at Differ (gate_variable no_gate) (map gate_variable gates) a b (pairs_right Differ sources (map gate_variable gates) once) h
            (omega (arith, below, length-map gates gate_variable)) (at gates a ∙ e ∙ sym (at gates b))

        differ : (a b : ℕ) → a < n → b < n → a ≢ b → gate_variable (gate_at gates a) ≢ gate_variable (gate_at gates b)
        differ a b h k other e =
            elim (dec_lt a b) [ yes less ↦ lesser a b less k e | no less ↦ lesser b a (omega (arith, less, other)) h (sym e) ]

        apart : (i j : ℕ) → i < j → j < length (map gate_variable (in_turn gates))
            → get_or (map gate_variable (in_turn gates)) i (gate_variable no_gate) ≢ get_or (map gate_variable (in_turn gates)) j (gate_variable no_gate)
        apart i j h k e =
            let below : j < n = omega (arith, k, length-map (in_turn gates) gate_variable, turn_long) in
            let above : i < n = omega (arith, h, below) in
            differ (get_or (evaluation gates) i n) (get_or (evaluation gates) j n) (ordered.within i above) (ordered.within j below)
            (λ same. omega (arith, h, ordered.once i j above below same))
            (ap gate_variable (sym (at_turn i)) ∙ sym (at (in_turn gates) i) ∙ e ∙ at (in_turn gates) j ∙ ap gate_variable (at_turn j))

        across : (a b : ℕ) → In sources a → In (map gate_variable (in_turn gates)) b → a ≢ b
        across a b u w =
            let (g, there, e) = map_in gate_variable (in_turn gates) b w in
            pairs_across Differ sources (map gate_variable gates) a b once u
            (subst (In (map gate_variable gates)) e (in_map gate_variable gates g (turn_in g there)))
