-- What is stored of a circuit within the limits stands for that circuit. Assumes nothing.
use Prim.Native.Nat.{ℕ, ◌+◌, ◌-◌, ◌*◌, min, ◌<◌, ◌≤◌}
use native.Mathlib.Decide.{dec_lt}
use native.Mathlib.Omega.{arith}
use mathlib.Core.Bool.{Bool, true, false, not}
use mathlib.Core.List.{List, ◌++◌, map}
use mathlib.Core.Path.{◌≡◌, refl, sym, ap, ◌∙◌, subst}
use lib.Dec.{eqb}
use lib.ListN.{
  length,
  get_or,
  take,
  replicate,
  length-append,
  length-map,
  length-take,
  length-replicate,
  get_or-replicate,
  get_or-append,
  get_or-map,
  get_or-eq_default,
}
use lib.Seq.{ext_get_or, get_or-take, get_or-append-add}
use Rattle.below.specs.Table.{table}
use Rattle.below.proofs.Laws.Table.{table_same, table_get_or}
use Rattle.bits.specs.Bit.{one_if}
use Rattle.circuit.specs.Circuit.{Circuit, Input, Latch, Gate}
use Rattle.circuit.specs.Limits.{base}
use Rattle.circuit.specs.Stored.{literal_of, inputs_of, latches_of, gates_of, lent, on_lines, meant, padded, stored}
use Rattle.circuit.proofs.Laws.StoredLiteral.{literal_small}

-- padding adds nothing but zeros
length-padded : (n : ℕ) (l : List ℕ) → length (padded n l) ≡ n
unfolding padded
length-padded n l = length-take n (l ++ replicate n 0) ∙ shorter
  where
    shorter : min n (length (l ++ replicate n 0)) ≡ n
    shorter = omega (arith, length-append l (replicate n 0), length-replicate {A = ℕ} n 0)

padded_at : (n : ℕ) (l : List ℕ) → length l ≤ n → (i : ℕ) → get_or (padded n l) i 0 ≡ get_or l i 0
unfolding padded
padded_at n l h i = elim (dec_lt i (length l)) [ yes j ↦ inside j | no j ↦ elim (dec_lt i n) [ yes k ↦ zeros (omega arith) k | no k ↦ past (omega arith) ] ]
  where
    whole : List ℕ
    whole = l ++ replicate n 0

    inside : i < length l → get_or (take n whole) i 0 ≡ get_or l i 0
    inside j = get_or-take n whole i 0 (omega arith) ∙ get_or-append l (replicate n 0) 0 i j

    zeros : length l ≤ i → i < n → get_or (take n whole) i 0 ≡ get_or l i 0
    zeros j k =
        get_or-take n whole i 0 k
        ∙ ap (λ (m : ℕ). get_or whole m 0) shift
        ∙ get_or-append-add l (replicate n 0) (i - length l) 0
        ∙ get_or-replicate n (i - length l) 0 0 (omega arith)
        ∙ sym (get_or-eq_default l 0 j)
      where
        shift : i ≡ length l + (i - length l)
        shift = omega arith

    past : n ≤ i → get_or (take n whole) i 0 ≡ get_or l i 0
    past k = get_or-eq_default (take n whole) 0 (omega (arith, length-padded n l)) ∙ sym (get_or-eq_default l 0 (omega arith))

take-padded : (n : ℕ) (l : List ℕ) → length l ≤ n → take (length l) (padded n l) ≡ l
take-padded n l h =
    ext_get_or 0 (take (length l) (padded n l)) l (length-take (length l) (padded n l) ∙ shorter)
    (λ i j. get_or-take (length l) (padded n l) i 0 (below i j) ∙ padded_at n l h i)
  where
    shorter : min (length l) (length (padded n l)) ≡ length l
    shorter = omega (arith, length-padded n l)

    below : (i : ℕ) → i < length (take (length l) (padded n l)) → i < length l
    below i j = omega (arith, length-take (length l) (padded n l))

-- a field of the elements of a list, as it is stored and lent
module _ {A : Type 0} (f : A → ℕ) (n : ℕ) (l : List A) (h : length l ≤ n) where
  field_list : take (length l) (padded n (map f l)) ≡ map f l
  field_list =
      subst (λ (m : ℕ). take m (padded n (map f l)) ≡ map f l) (length-map l f) (take-padded n (map f l) (omega (arith, length-map l f)))

  field_at : (i : ℕ) → get_or (padded n (map f l)) i 0 ≡ get_or (map f l) i 0
  field_at i = padded_at n (map f l) (omega (arith, length-map l f)) i

-- a list is the table of its elements
rebuilt : {A : Type 0} (l : List A) (d : A) (f : ℕ → A) (n : ℕ) → n ≡ length l → ((i : ℕ) → i < n → f i ≡ get_or l i d) → table f n ≡ l
rebuilt l d f n e at = table_same f (λ i. get_or l i d) n at ∙ ap (table (λ i. get_or l i d)) e ∙ table_get_or l d

flag_back : (b : Bool) → not (eqb (one_if b) 0) ≡ b
unfolding one_if
flag_back true = refl
flag_back false = refl

-- a field whose numbers are literals that a circuit may have
abbrev pub Literals : {A : Type 0} → (A → ℕ) → List A → Type 0
Literals f l = (i : ℕ) → get_or (map f l) i 0 ≤ 2 * base.variable + 1

pub record Fits (c : Circuit) : Type 0 where
  pub inputs : length c.inputs ≤ base.inputs
  pub latches : length c.latches ≤ base.latches
  pub gates : length c.gates ≤ base.variable
  pub input : Literals (λ (i : Input). i.own) c.inputs
  pub latch : Literals (λ (l : Latch). l.own) c.latches
  pub next : Literals (λ (l : Latch). l.next) c.latches
  pub output : c.output ≤ 2 * base.variable + 1
  pub gate : Literals (λ (g : Gate). g.own) c.gates
  pub left : Literals (λ (g : Gate). g.left) c.gates
  pub right : Literals (λ (g : Gate). g.right) c.gates
  pub lines : length c.lines ≡ length c.gates

module _ (c : Circuit) (fits : Fits c) where
  literal : {A : Type 0} (f : A → ℕ) (l : List A) (d : A) → f d ≡ 0 → Literals f l → (i : ℕ) → literal_of (get_or (map f l) i 0) ≡ f (get_or l i d)
  literal f l d z small i =
      literal_small (get_or (map f l) i 0) (small i) ∙ ap (λ (m : ℕ). get_or (map f l) i m) (sym z) ∙ get_or-map f l i d

  inputs_back : inputs_of (take (length c.inputs) (padded base.inputs (map (λ (i : Input). i.own) c.inputs)))
      (padded base.inputs (map (λ (i : Input). one_if i.controllable) c.inputs)) ≡ c.inputs
  unfolding inputs_of one_if
  inputs_back = rw (field_list own base.inputs is fits.inputs) (rebuilt is d (λ i. at i) (length (map own is)) (length-map is own) (λ i h. same i))
    where
      is : List Input
      is = c.inputs

      own : Input → ℕ
      own i = i.own

      flag : Input → ℕ
      flag i = one_if i.controllable

      d : Input
      d = record { own = 0; controllable = false }

      at : ℕ → Input
      at i =
          record {
            own = literal_of (get_or (map own is) i 0);
            controllable = not (eqb (get_or (padded base.inputs (map flag is)) i 0) 0);
          }

      flagged : (i : ℕ) → not (eqb (get_or (padded base.inputs (map flag is)) i 0) 0) ≡ (get_or is i d).controllable
      flagged i =
          ap (λ (m : ℕ). not (eqb m 0)) (field_at flag base.inputs is fits.inputs i ∙ get_or-map flag is i d)
          ∙ flag_back (get_or is i d).controllable

      same : (i : ℕ) → at i ≡ get_or is i d
      same i = λ j. record { own = literal own is d refl fits.input i j; controllable = flagged i j }

  latches_back : latches_of (take (length c.latches) (padded base.latches (map (λ (l : Latch). l.own) c.latches)))
      (padded base.latches (map (λ (l : Latch). l.next) c.latches)) ≡ c.latches
  unfolding latches_of
  latches_back = rw (field_list own base.latches ls fits.latches)
      (rebuilt ls d (λ i. at i) (min (length (map own ls)) base.latches) few (λ i h. same i))
    where
      ls : List Latch
      ls = c.latches

      own : Latch → ℕ
      own l = l.own

      next : Latch → ℕ
      next l = l.next

      d : Latch
      d = record { own = 0; next = 0 }

      few : min (length (map own ls)) base.latches ≡ length ls
      few = omega (arith, length-map ls own, fits.latches)

      at : ℕ → Latch
      at i =
          record {
            own = literal_of (get_or (map own ls) i 0);
            next = literal_of (get_or (padded base.latches (map next ls)) i 0);
          }

      same : (i : ℕ) → at i ≡ get_or ls i d
      same i =
          λ j.
          record {
            own = literal own ls d refl fits.latch i j;
            next = (ap literal_of (field_at next base.latches ls fits.latches i) ∙ literal next ls d refl fits.next i) j;
          }

  gates_back : gates_of (take (length c.gates) (padded base.variable (map (λ (g : Gate). g.own) c.gates)))
      (padded base.variable (map (λ (g : Gate). g.left) c.gates)) (padded base.variable (map (λ (g : Gate). g.right) c.gates)) ≡ c.gates
  unfolding gates_of
  gates_back = rw (field_list own base.variable gs fits.gates) (rebuilt gs d (λ i. at i) (length (map own gs)) (length-map gs own) (λ i h. same i))
    where
      gs : List Gate
      gs = c.gates

      own : Gate → ℕ
      own g = g.own

      left : Gate → ℕ
      left g = g.left

      right : Gate → ℕ
      right g = g.right

      d : Gate
      d = record { own = 0; left = 0; right = 0 }

      at : ℕ → Gate
      at i =
          record {
            own = literal_of (get_or (map own gs) i 0);
            left = literal_of (get_or (padded base.variable (map left gs)) i 0);
            right = literal_of (get_or (padded base.variable (map right gs)) i 0);
          }

      same : (i : ℕ) → at i ≡ get_or gs i d
      same i =
          λ j.
          record {
            own = literal own gs d refl fits.gate i j;
            left = (ap literal_of (field_at left base.variable gs fits.gates i) ∙ literal left gs d refl fits.left i) j;
            right = (ap literal_of (field_at right base.variable gs fits.gates i) ∙ literal right gs d refl fits.right i) j;
          }

  lines_back : take (length c.gates) (padded base.variable c.lines) ≡ c.lines
  lines_back =
      subst (λ (m : ℕ). take m (padded base.variable c.lines) ≡ c.lines) fits.lines
      (take-padded base.variable c.lines (omega (arith, fits.lines, fits.gates)))

  -- what is stored of a circuit within the limits stands for it
  pub meant-stored : meant (stored c) ≡ c
  unfolding meant stored lent on_lines
  meant-stored =
      λ j.
      record {
        largest = c.largest;
        inputs = inputs_back j;
        latches = latches_back j;
        output = literal_small c.output fits.output j;
        gates = gates_back j;
        lines = lines_back j;
      }
