-- A name by its places. Assumes nothing.
use Prim.Native.Nat.{ℕ, suc, ◌+◌, ◌-◌}
use native.Mathlib.Omega.{arith}
use native.Mathlib.Nat.{add-zero}
use mathlib.Core.Bool.{◌&&◌}
use mathlib.Core.List.{List, [], ◌∷◌}
use mathlib.Core.Path.{◌≡◌}
use lib.Dec.{eqb, leb}
use lib.ListN.{length, get_or, drop}
use lib.Seq.{drop-drop, get_or-drop}
use Rattle.bits.specs.Bytes.{same_bytes}
use Rattle.text.specs.Number.{run}
use Rattle.text.specs.Symbol.{is_name_byte, is_name}
use Rattle.fields.specs.Inner.WellNamed.{well_named}

pub well_named_lem : (line : List ℕ) (at end : ℕ) → end ≡ at + 1 + length (run is_name_byte (drop (at + 1) line))
    → well_named (drop at line) ≡ (eqb (get_or line at 0) 32 && same_bytes (drop end line) (10 ∷ []) && (leb 1 (end - (at + 1)) && leb (end - (at + 1)) 200))
unfolding well_named is_name
well_named_lem line at end e =
    rw (drop-drop 1 at line, get_or-drop at line 0 0, add-zero at, size, drop-drop (suc (end - (at + 1))) at line, behind)
  where
    size : length (run is_name_byte (drop (at + 1) line)) ≡ end - (at + 1)
    size = omega arith

    behind : at + suc (end - (at + 1)) ≡ end
    behind = omega arith
