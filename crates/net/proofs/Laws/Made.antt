-- What is put and named adds up to the net: operands, then next-state literals, then the head, over zeros. Assumes nothing.
use Prim.Native.Nat.{ℕ, suc, ◌+◌, ◌*◌, ◌-◌, ◌≤◌}
use native.Mathlib.Omega.{arith}
use mathlib.Core.List.{List, [], ◌∷◌, ◌++◌, map}
use mathlib.Core.Path.{◌≡◌, refl, sym, ap, ◌∙◌}
use lib.ListN.{length, set, take, drop, replicate, length-append, length-map, length-take, length-drop, length-replicate, get_or-replicate}
use lib.Seq.{sets, ext_get_or, get_or-take, get_or-drop, take-append-add}
use Rattle.below.specs.Table.{table}
use Rattle.below.proofs.Laws.Table.{length_table, get_or_table}
use Rattle.bits.proofs.Laws.Wrote.{sets_append, sets-set_past, sets_front}
use Rattle.circuit.specs.Circuit.{Circuit, Latch, Gate, latch_count, uncontrollable_count, controllable_count}
use Rattle.circuit.specs.Literal.{variable}
use Rattle.circuit.specs.Stored.{padded}
use Rattle.net.specs.Made.{most, MadeAs}
use Rattle.net.specs.NetOf.{Names, name, net_literal, name_inputs, name_latches, name_gates, operands_of, first_names, all_names, gate_start, net_of}
use Rattle.net.proofs.Laws.Room.{Room}

-- two parts that don't meet may be put in either order
sets_swap : (l : List ℕ) (i : ℕ) (vs : List ℕ) (j : ℕ) (ws : List ℕ) → i + length vs ≤ j → sets (sets l j ws) i vs ≡ sets (sets l i vs) j ws
sets_swap l i vs j [] h = refl
sets_swap l i vs j (w ∷ ws) h =
    sets_swap (set l j w) i vs (suc j) ws (omega arith)
    ∙ ap (λ (x : List ℕ). sets x (suc j) ws) (sym (sets-set_past l i vs j w h))

-- numbers put over zeros are padded
pub over_zeros : (n : ℕ) (net : List ℕ) → length net ≤ n → sets (table (λ i. 0) n) 0 net ≡ padded n net
unfolding padded
over_zeros n net h =
    sets_front zeros net (omega (arith, long))
    ∙ ap (λ (x : List ℕ). net ++ x) tail
    ∙ sym (take-append-add net (replicate n 0) (n - length net))
    ∙ ap (λ (m : ℕ). take m (net ++ replicate n 0)) {x = length net + (n - length net)} {y = n} (omega arith)
  where
    zeros : List ℕ
    zeros = table (λ i. 0) n

    long : length zeros ≡ n
    long = length_table (λ i. 0) n

    tail : drop (length net) zeros ≡ take (n - length net) (replicate n 0)
    tail =
        ext_get_or 0 (drop (length net) zeros) (take (n - length net) (replicate n 0))
        (length-drop (length net) zeros ∙ omega (arith, long, length-take (n - length net) (replicate {A = ℕ} n 0), length-replicate {A = ℕ} n 0))
        (λ i l. get_or-drop (length net) zeros i 0
        ∙ get_or_table (λ i. 0) n (length net + i) 0 (omega (arith, length-drop (length net) zeros, long))
        ∙ sym (get_or-take (n - length net) (replicate n 0) i 0 (omega (arith, length-drop (length net) zeros, long))
        ∙ get_or-replicate n i 0 0 (omega (arith, length-drop (length net) zeros, long))))

pub operands_long : (gs : List Gate) (v : ℕ) (names : Names) → length (operands_of gs v names) ≡ 2 * length gs
unfolding operands_of
operands_long [] v names = refl
operands_long (g ∷ gs) v names = omega (arith, operands_long gs (suc v) (name (variable g.own) v names))

module _ (c : Circuit) where
  nexts : List ℕ
  nexts = map (λ (l : Latch). net_literal (all_names c) l.next) c.latches

  operands : List ℕ
  operands = operands_of c.gates (gate_start c) (first_names c)

  head : List ℕ
  head = controllable_count c ∷ uncontrollable_count c ∷ latch_count c ∷ net_literal (all_names c) c.output ∷ []

  zeros : List ℕ
  zeros = table (λ i. 0) most

  nexts_long : length nexts ≡ latch_count c
  unfolding nexts latch_count
  nexts_long = length-map c.latches (λ (l : Latch). net_literal (all_names c) l.next)

  parts : head ++ (nexts ++ operands) ≡ net_of c
  unfolding net_of head nexts operands
  parts = refl

  pub net_length : length (net_of c) ≡ 4 + latch_count c + 2 * length c.gates
  unfolding net_of nexts operands
  net_length = omega (arith, length-append nexts operands, nexts_long, operands_long c.gates (gate_start c) (first_names c))

  pub net_most : Room c → length (net_of c) ≤ most
  unfolding latch_count
  net_most room = omega (arith, net_length, room.latches, room.gates)

  whole : Room c → sets (sets (sets zeros (4 + latch_count c) operands) 4 nexts) 0 head ≡ padded most (net_of c)
  unfolding head zeros
  whole room =
      ap (λ (l : List ℕ). sets l 0 head) (sets_swap zeros 4 nexts (4 + latch_count c) operands (omega (arith, nexts_long)))
      ∙ sets_swap (sets zeros 4 nexts) 0 head (4 + latch_count c) operands (omega arith)
      ∙ ap (λ (l : List ℕ). sets l (4 + latch_count c) operands) (sets_swap zeros 0 head 4 nexts (omega arith))
      ∙ ap (λ (n : ℕ). sets (sets (sets zeros 0 head) 4 nexts) n operands) {x = 4 + latch_count c} {y = 4 + length nexts} (omega (arith, nexts_long))
      ∙ sym (sets_append (sets zeros 0 head) 4 nexts operands)
      ∙ sym (sets_append zeros 0 head (nexts ++ operands))
      ∙ ap (sets zeros 0) parts
      ∙ over_zeros most (net_of c) (net_most room)

  -- inputs, latches and gates named, then all put, over names and numbers that are 0
  module _ (n0 n1 n2 n3 : Names) (m0 m1 m2 m3 : List ℕ) (long : ℕ) where
    pub net_made : n0 ≡ (λ v. 0)
        → n1 ≡ name_inputs c.inputs 1 (1 + controllable_count c) n0
        → n2 ≡ name_latches c.latches (1 + controllable_count c + uncontrollable_count c) n1
        → m0 ≡ table (λ i. 0) most
        → m1 ≡ sets m0 (4 + latch_count c) (operands_of c.gates (gate_start c) n2)
        → n3 ≡ name_gates c.gates (gate_start c) n2
        → m2 ≡ sets m1 4 (map (λ (l : Latch). net_literal n3 l.next) c.latches)
        → m3 ≡ sets m2 0 (controllable_count c ∷ uncontrollable_count c ∷ latch_count c ∷ net_literal n3 c.output ∷ [])
        → long ≡ 4 + latch_count c + 2 * length c.gates
        → Room c
        → MadeAs (net_of c) (record { numbers = m3; length = long })
    unfolding head nexts operands zeros first_names all_names
    net_made a b d z e f g h l room = record { numbers = rw (h, g, e, f, z) all; length = l ∙ sym net_length }
      where
        first : n2 ≡ first_names c
        first = rw (d, b, a)

        all : sets (sets (sets (table (λ i. 0) most) (4 + latch_count c) (operands_of c.gates (gate_start c) n2)) 4
            (map (λ (l : Latch). net_literal (name_gates c.gates (gate_start c) n2) l.next) c.latches)) 0
            (controllable_count c ∷ uncontrollable_count c ∷ latch_count c ∷ net_literal (name_gates c.gates (gate_start c) n2) c.output ∷ [])
            ≡ padded most (net_of c)
        all = rw first (whole room)
