-- The first gate that defines each variable, gate by gate; and that both operands of each gate, looked up there, are the gates that it uses.
-- Assumes nothing.
use Prim.Native.Nat.{ℕ, zero, suc, ◌+◌, ◌*◌, ◌/◌, ◌%◌, ◌<◌, ◌≤◌}
use native.Mathlib.Decide.{dec_lt, ℕ_discrete}
use native.Mathlib.Numerals.{add-one}
use native.Mathlib.Omega.{arith}
use mathlib.Core.Bool.{Bool, true, false, cond, true≢false}
use mathlib.Core.List.{List, [], ◌∷◌, ◌++◌, flat_map, append_assoc}
use mathlib.Core.Path.{◌≡◌, refl, sym, ap, ap₂, ◌∙◌, subst}
use lib.Dec.{eqb, ltb}
use lib.ListN.{length, get_or, take, drop, set, length-set}
use lib.Seq.{get_or-set_same, get_or-set_other, get_or-take, get_or-drop, ext_get_or, length-take-le}
use borrow.Author.Tests.{lt-ltb, le-ltb, eq-eqb, ne_eqb}
use Rattle.std.specs.Prelude.{Option, Some, None, is_some, unwrap_or}
use Rattle.below.specs.Least.{least}
use Rattle.below.specs.Table.{table}
use Rattle.below.proofs.Laws.Filled.{Filled, filled_next}
use Rattle.below.proofs.Laws.Least.{least_le, least_same}
use Rattle.below.proofs.Laws.Table.{length_table, get_or_table, get_or_table_past}
use Rattle.circuit.specs.Circuit.{Gate, gate_at}
use Rattle.circuit.specs.Limits.{base}
use Rattle.circuit.specs.Literal.{variable, constant}
use Rattle.reader.specs.Inner.Definers.{first_that, defines, Definers, definer_in, operand_at}
use Rattle.reader.specs.Inner.Rows.{cell, gate_on}
use Rattle.text.specs.GateUses.{definer, uses_of}

-- a number of one of n rows from a start on
pub cell_part : (rows : List (List ℕ)) (start n j which : ℕ) → j < n → cell (take n (drop start rows)) j which ≡ cell rows (start + j) which
unfolding cell
cell_part rows start n j which h = ap (λ (r : List ℕ). get_or r which 0) (get_or-take n (drop start rows) j [] h ∙ get_or-drop start rows j [])

-- one gate more: the first that passes stays
or_here : Bool → ℕ → Option ℕ → Option ℕ
or_here b i None = cond b (Some i) None
or_here b i (Some k) = Some k

first_more : (p : ℕ → Bool) (i : ℕ) → first_that p (suc i) ≡ or_here (p i) i (first_that p i)
unfolding first_that least or_here
first_more p i = elim (dec_lt (least p i) i) [
  | yes h ↦ rw (lt-ltb (least p i) i h, lt-ltb (least p i) (suc i) (omega arith))
  | no h ↦ rw (le-ltb (least p i) i (omega arith)) (by (p i))
]
  where
    by : (b : Bool) → cond (ltb (cond b i (suc i)) (suc i)) (Some (cond b i (suc i))) None ≡ cond b (Some i) None
    by true = rw (lt-ltb i (suc i) (omega arith))
    by false = rw (le-ltb (suc i) (suc i) (omega arith))

-- j gates are entered
pub record Entered (rows : List (List ℕ)) (start : ℕ) (definers : List (Option ℕ)) (j : ℕ) : Type 0 where
  pub long : length definers ≡ base.variable + 1
  pub at : (v : ℕ) → v < length definers → get_or definers v None ≡ first_that (defines rows start v) j

module _ (rows : List (List ℕ)) (start : ℕ) where
  pub entered_start : (definers : List (Option ℕ)) → definers ≡ table (λ i. None) (base.variable + 1) → Entered rows start definers 0
  unfolding first_that
  entered_start definers e =
      record {
        long = ap length e ∙ length_table {A = Option ℕ} (λ i. None) (base.variable + 1);
        at = λ v h. ap (λ (l : List (Option ℕ)). get_or l v None) e ∙ nothing v ∙ rw (le-ltb (least (defines rows start v) 0) 0 (omega arith));
      }
    where
      nothing : (v : ℕ) → ◌≡◌ {A = Option ℕ} (get_or (table (λ i. None) (base.variable + 1)) v None) None
      nothing v = elim (dec_lt v (base.variable + 1)) [
        | yes h ↦ get_or_table (λ i. None) (base.variable + 1) v None h
        | no h ↦ get_or_table_past (λ i. None) (base.variable + 1) v None (omega arith)
      ]

  module _ (definers : List (Option ℕ)) (j : ℕ) (w : Entered rows start definers j) (v : ℕ) (own : v ≡ variable (cell rows (start + j) 0)) where
    test : (u : ℕ) → defines rows start u j ≡ eqb v u
    unfolding defines
    test u = ap (λ (k : ℕ). eqb k u) (sym own)

    -- a variable that another gate defines
    other : (u : ℕ) → u < length definers → (v ≡ u → ⊥) → get_or definers u None ≡ first_that (defines rows start u) (suc j)
    unfolding or_here
    other u low d = w.at u low ∙ by (first_that (defines rows start u) j) ∙ sym (first_more (defines rows start u) j ∙ rw (test u, ne_eqb v u d))
      where
        by : (o : Option ℕ) → o ≡ or_here false j o
        by None = refl
        by (Some k) = refl

    pub entered_first : v < length definers → is_some (get_or definers v None) ≡ false → Entered rows start (set definers v (Some j)) (j + 1)
    unfolding or_here
    entered_first low none = rw (add-one j) (record { long = length-set definers v (Some j) ∙ w.long; at = at })
      where
        nothing : (o : Option ℕ) → is_some o ≡ false → o ≡ None
        nothing None e = refl
        nothing (Some k) e = absurd (true≢false e)

        here : get_or (set definers v (Some j)) v None ≡ first_that (defines rows start v) (suc j)
        here = get_or-set_same definers v (Some j) None low
            ∙ sym (first_more (defines rows start v) j ∙ rw (test v, eq-eqb v v refl, sym (w.at v low) ∙ nothing (get_or definers v None) none))

        at : (u : ℕ) → u < length (set definers v (Some j)) → get_or (set definers v (Some j)) u None ≡ first_that (defines rows start u) (suc j)
        at u h = elim (ℕ_discrete v u) [
          | yes e ↦ subst (λ (x : ℕ). get_or (set definers v (Some j)) x None ≡ first_that (defines rows start x) (suc j)) e here
          | no d ↦ get_or-set_other definers v u (Some j) None (λ q. d (sym q)) ∙ other u (omega (arith, length-set definers v (Some j))) d
        ]

    pub entered_again : is_some (get_or definers v None) ≡ true → Entered rows start definers (j + 1)
    unfolding or_here
    entered_again there = rw (add-one j) (record { long = w.long; at = at })
      where
        stays : (b : Bool) (o : Option ℕ) → is_some o ≡ true → o ≡ or_here b j o
        stays b None e = absurd (true≢false (sym e))
        stays b (Some k) e = refl

        here : v < length definers → get_or definers v None ≡ first_that (defines rows start v) (suc j)
        here low = w.at v low ∙ stays (defines rows start v j) (first_that (defines rows start v) j) (ap is_some (sym (w.at v low)) ∙ there)
            ∙ sym (first_more (defines rows start v) j)

        at : (u : ℕ) → u < length definers → get_or definers u None ≡ first_that (defines rows start u) (suc j)
        at u h = elim (ℕ_discrete v u) [
          | yes e ↦ subst (λ (x : ℕ). get_or definers x None ≡ first_that (defines rows start x) (suc j)) e
              (here (subst (λ (x : ℕ). x < length definers) (sym e) h))
          | no d ↦ other u h d
        ]

  pub entered_ends : (definers : List (Option ℕ)) (j n : ℕ) → Entered rows start definers j → j ≡ n → Definers rows start n definers
  entered_ends definers j n w e = record { long = w.long; at = λ v low. w.at v low ∙ ap (first_that (defines rows start v)) e }

-- pairs in turn are a table of twice as many
pub pairs_table : {A : Type 0} (a b : A → ℕ) (r : ℕ → A) (f : ℕ → ℕ) (n : ℕ) → ((i : ℕ) → i < n → f (2 * i) ≡ a (r i))
    → ((i : ℕ) → i < n → f (2 * i + 1) ≡ b (r i)) → flat_map (λ x. a x ∷ b x ∷ []) (table r n) ≡ table f (2 * n)
unfolding table flat_map
pairs_table a b r f zero p q = refl
pairs_table a b r f (suc n) p q =
    flat_snoc (table r n) (r n)
    ∙ ap (λ (l : List ℕ). l ++ (a (r n) ∷ b (r n) ∷ [])) (pairs_table a b r f n (λ i h. p i (omega arith)) (λ i h. q i (omega arith)))
    ∙ sym (append_assoc (table f (2 * n)) (a (r n) ∷ []) (b (r n) ∷ []))
    ∙ ap₂ {C = List ℕ} (λ x y. (table f (2 * n) ++ (x ∷ [])) ++ (y ∷ [])) (sym (p n (omega arith))) (sym (q n (omega arith)) ∙ ap f (add-one (2 * n)))
    ∙ ap (table f) twice
  where
    twice : suc (suc (2 * n)) ≡ 2 * suc n
    twice = omega arith

    flat_snoc : (xs : List _) (x : _) → flat_map (λ y. a y ∷ b y ∷ []) (xs ++ (x ∷ [])) ≡ flat_map (λ y. a y ∷ b y ∷ []) xs ++ (a x ∷ b x ∷ [])
    flat_snoc [] x = refl
    flat_snoc (y ∷ xs) x = ap {B = List ℕ} (λ l. a y ∷ b y ∷ l) (flat_snoc xs x)

-- what stands at both places of a gate
module _ (rows : List (List ℕ)) (start : ℕ) (definers : List (Option ℕ)) (n i : ℕ) where
  place : (m which : ℕ) → m / 2 ≡ i → m % 2 ≡ which → operand_at rows start definers n m ≡ definer_in definers n (cell rows (start + i) (1 + which))
  unfolding operand_at
  place m which e f = ap₂ {C = ℕ} (λ j k. definer_in definers n (cell rows (start + j) (1 + k))) e f

  pub operand_left : operand_at rows start definers n (2 * i) ≡ definer_in definers n (cell rows (start + i) 1)
  operand_left = place (2 * i) 0 (omega arith) (omega arith)

  pub operand_right : operand_at rows start definers n (2 * i + 1) ≡ definer_in definers n (cell rows (start + i) 2)
  operand_right = place (2 * i + 1) 1 (omega arith) (omega arith)

  -- one gate more
  pub pair_more : (before uses : List ℕ) → Filled (operand_at rows start definers n) before (2 * i) uses → 2 * i + 1 < length before → (a b : ℕ)
      → a ≡ definer_in definers n (cell rows (start + i) 1) → b ≡ definer_in definers n (cell rows (start + i) 2)
      → Filled (operand_at rows start definers n) before (2 * (i + 1)) (set (set uses (2 * i) a) (2 * i + 1) b)
  pair_more before uses w h a b left right =
      let f = operand_at rows start definers n in
      let one = filled_next f before (2 * i) a uses w (omega arith) (left ∙ sym operand_left) in
      subst (λ (m : ℕ). Filled f before m (set (set uses (2 * i) a) (2 * i + 1) b)) (omega arith)
      (filled_next f before (2 * i + 1) b (set uses (2 * i) a) one h (right ∙ sym operand_right))

-- a list that is filled so far
filled_front : (f : ℕ → ℕ) (before after : List ℕ) (n : ℕ) → Filled f before n after → n ≤ length before → take n after ≡ table f n
filled_front f before after n w room =
    let long : length (take n after) ≡ n = length-take-le n after (omega (arith, w.long)) in
    ext_get_or 0 (take n after) (table f n) (long ∙ sym (length_table f n))
    (λ i h. get_or-take n after i 0 (omega (arith, long)) ∙ w.front i (omega (arith, long)) ∙ sym (get_or_table f n i 0 (omega (arith, long))))

module _ (rows : List (List ℕ)) (start n : ℕ) (literals : (j which : ℕ) → cell rows j which < 2 * base.variable + 2) (definers : List (Option ℕ))
    (w : Definers rows start n definers) where
  abbrev gates : List Gate
  gates = table (λ i. gate_on rows (start + i)) n

  own_at : (j : ℕ) → j < n → (gate_at gates j).own ≡ cell rows (start + j) 0
  unfolding gate_at gate_on
  own_at j h = ap (λ (g : Gate). g.own) (get_or_table (λ i. gate_on rows (start + i)) n j (record { own = 0; left = 0; right = 0 }) h)

  -- the gate that an operand is
  operand_is : (j which : ℕ) → definer_in definers n (cell rows j which) ≡ definer gates (cell rows j which)
  unfolding definer_in definer defines first_that variable
  operand_is j which = by (constant l) refl
    where
      l : ℕ
      l = cell rows j which

      many : length gates ≡ n
      many = length_table (λ i. gate_on rows (start + i)) n

      first : least (λ i. eqb (variable (gate_at gates i).own) (variable l)) n ≡ least (defines rows start (variable l)) n
      first = least_same _ _ n (λ i h. ap (λ (k : ℕ). eqb (variable k) (variable l)) (own_at i h))

      found : (k : ℕ) → k ≡ least (defines rows start (variable l)) n → unwrap_or (cond (ltb k n) (Some k) None) n ≡ k
      found k e = elim (dec_lt k n) [
        | yes h ↦ rw (lt-ltb k n h)
        | no h ↦ rw (le-ltb k n (omega arith)) (omega (arith, least_le (defines rows start (variable l)) n))
      ]

      there : unwrap_or (get_or definers (variable l) None) n ≡ least (defines rows start (variable l)) n
      there = rw (w.at (variable l) (omega (arith, w.long, literals j which))) (found (least (defines rows start (variable l)) n) refl)

      by : (b : Bool) → constant l ≡ b → cond b n (unwrap_or (get_or definers (variable l) None) n)
          ≡ cond b (length gates) (least (λ i. eqb (variable (gate_at gates i).own) (variable l)) (length gates))
      by true c = sym many
      by false c = there ∙ sym (ap (least (λ i. eqb (variable (gate_at gates i).own) (variable l))) many ∙ first)

  -- what is filled in is what the gates use
  pub uses_are : uses_of gates ≡ table (operand_at rows start definers n) (2 * n)
  unfolding uses_of operand_at gate_on
  uses_are =
      pairs_table (λ (g : Gate). definer gates g.left) (λ (g : Gate). definer gates g.right) (λ i. gate_on rows (start + i))
      (operand_at rows start definers n) n
      (λ i h. operand_left rows start definers n i ∙ operand_is (start + i) 1)
      (λ i h. operand_right rows start definers n i ∙ operand_is (start + i) 2)

  pub uses_front : (before uses : List ℕ) → Filled (operand_at rows start definers n) before (2 * n) uses → 2 * n ≤ length before
      → take (2 * n) uses ≡ uses_of gates
  uses_front before uses filled room = filled_front (operand_at rows start definers n) before uses (2 * n) filled room ∙ sym uses_are
