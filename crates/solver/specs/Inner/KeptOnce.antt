-- What a search keeps is a fact that has one proof. Assumes nothing.
use Rattle.std.specs.Prelude.{ℕ, suc, ◌+◌, ◌*◌, ◌≤◌, ◌<◌, Bool, List, [], ◌∷◌, ◌≡◌, length}
use Rattle.std.specs.Coded.{×_prop, Unit-prop, le_prop}
use Rattle.std.proofs.Common.{ap, arith}
use Rattle.std.proofs.Props.{props}
use mathlib.Core.HLevel.{Σ_prop_path, ×₃_prop, ⊥_prop}
use Rattle.circuit.specs.Limits.{base}
use Rattle.keeping.specs.declared.rank_list.KeptControl.{KeptControl}
use Rattle.net.specs.InOrder.{variables, AllBefore, GatesInOrder, InOrder}
use Rattle.net.specs.Net.{net_output, net_nexts, net_operands, net_latches, move_bits}
use Rattle.solver.specs.Inner.Kept.{Kept}
use Rattle.solver.specs.declared.planes.Slot.{Slot}

AllBefore-prop : (v : ℕ) (ls : List ℕ) → IsProp (AllBefore v ls)
AllBefore-prop v [] = Unit-prop
AllBefore-prop v (l ∷ ls) = ×_prop le_prop (AllBefore-prop v ls)

GatesInOrder-prop : (ls : List ℕ) (v end : ℕ) → IsProp (GatesInOrder ls v end)
GatesInOrder-prop [] v end = Prim.hlevel props
GatesInOrder-prop (a ∷ []) v end = ⊥_prop
GatesInOrder-prop (a ∷ b ∷ rest) v end = ×₃_prop le_prop le_prop (GatesInOrder-prop rest (suc v) end)

-- a net in order has one end
gates_long : (ls : List ℕ) (v end : ℕ) → GatesInOrder ls v end → length ls + 2 * v ≡ 2 * end
gates_long [] v end g = omega (arith, g)
gates_long (a ∷ []) v end g = absurd g
gates_long (a ∷ b ∷ rest) v end g = omega (arith, gates_long rest (suc v) end g.2)

module _ (net : List ℕ) where
  Ends : ℕ → Type 0
  Ends end = (end ≤ variables) × (GatesInOrder (net_operands net) (suc (move_bits net)) end × ((net_output net < 2 * end) × (AllBefore end (net_nexts net)
      × ((net_latches net ≤ base.latches) × (4 + net_latches net ≤ length net)))))

  ends-prop : (end : ℕ) → IsProp (Ends end)
  unfolding Ends
  ends-prop end = Prim.hlevel (le_prop, GatesInOrder-prop, AllBefore-prop)

  from : (end : ℕ) × Ends end → InOrder net
  unfolding Ends
  from p = record { end = p.0; few = p.1.0; gates = p.1.1.0; output = p.1.1.1.0; nexts = p.1.1.1.1.0; states = p.1.1.1.1.1.0; long = p.1.1.1.1.1.1 }

  to : InOrder net → (end : ℕ) × Ends end
  unfolding Ends
  to o = (o.end, (o.few, (o.gates, (o.output, (o.nexts, (o.states, o.long))))))

  InOrder-prop : IsProp (InOrder net)
  unfolding from to
  InOrder-prop a b = ap from (Σ_prop_path ends-prop (omega (arith, gates_long _ _ _ a.gates, gates_long _ _ _ b.gates)))

pub Kept-prop : (net : List ℕ) (set : ℕ → Bool) (kept : List KeptControl) (slots : List Slot) → IsProp (Kept net set kept slots)
Kept-prop net set kept slots = Prim.hlevel (InOrder-prop, props)
