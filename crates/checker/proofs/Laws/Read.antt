-- The net of a circuit that was read from a file: it is the circuit's, in order, and within the limits. Assumes nothing.
use Prim.Native.Nat.{ℕ}
use native.Mathlib.Omega.{arith}
use mathlib.Core.List.{List}
use mathlib.Core.Path.{◌≡◌, sym, ap, ◌∙◌, subst}
use lib.ListN.{take}
use Rattle.circuit.specs.Stored.{meant}
use Rattle.circuit.specs.declared.Circuit.{Circuit as Value}
use Rattle.file.proofs.Laws.Read.{Means}
use Rattle.file.proofs.Laws.Within.{read_within}
use Rattle.net.specs.InOrder.{InOrder}
use Rattle.net.specs.Made.{MadeAs}
use Rattle.net.specs.NetOf.{net_of}
use Rattle.net.specs.declared.Net.{Net}
use Rattle.net.proofs.Laws.InOrder.{Room}
use Rattle.net.proofs.Laws.Lent.{lent_net, lent_in_order}
use Rattle.checker.specs.Inner.FileNet.{FileNet}
use Rattle.net.specs.Sized.{Sized}
use Rattle.checker.proofs.Laws.Counted.{net_readings_are, net_controls_are}

module _ (file : List ℕ) (v : Value) (means : Means file v) (room : Room (meant v)) (made : Net) (is : MadeAs (net_of (meant v)) made) (net : List ℕ)
    (lent : net ≡ take made.length made.numbers) where
  net_is : net ≡ net_of means.circuit
  net_is = lent ∙ lent_net (meant v) room made is ∙ ap net_of means.meant_is

  pub read_net : FileNet file net
  read_net = record { circuit = means.circuit; read = means.read; is = net_is }

  pub read_sized : Sized net
  read_sized =
      let within = read_within file means.circuit means.read in
      record {
        order = subst InOrder (sym lent) (lent_in_order (meant v) room made is);
        few_readings = omega (arith, net_readings_are means.circuit net net_is, within.few_readings);
        few_controls = omega (arith, net_controls_are means.circuit net net_is, within.few_controls);
      }
