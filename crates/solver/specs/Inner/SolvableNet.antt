-- The net that is solved: the net itself, or the empty one where it has more inputs of a sort than a circuit may have. Assumes nothing.
use Rattle.std.specs.Prelude.{ℕ, cond, ◌||◌, List, [], ◌∷◌, ltb}
use Rattle.circuit.specs.Limits.{base}
use Rattle.net.specs.Net.{net_controls, net_readings}

unfoldable pub solvable_net : List ℕ → List ℕ
solvable_net net =
    cond (ltb base.uncontrollable (net_readings net) || ltb base.controllable (net_controls net))
    (0 ∷ 0 ∷ 0 ∷ 0 ∷ [])
    net
