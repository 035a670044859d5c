-- A line by its place in the file. Assumes nothing.
use Prim.Native.Nat.{ℕ, ◌+◌, ◌-◌, ◌≤◌}
use native.Mathlib.Omega.{arith}
use mathlib.Core.List.{List}
use mathlib.Core.Path.{◌≡◌}
use lib.ListN.{length, take, drop, length-drop}
use Rattle.text.specs.Line.{first_line}
use Rattle.fields.proofs.Laws.Position.{first_line_takes, first_line_within}

-- the line at a place is the part of the file up to its end
pub line_part : (s : List ℕ) (at end : ℕ) → end ≡ at + length (first_line (drop at s)) → take (end - at) (drop at s) ≡ first_line (drop at s)
line_part s at end e =
    let size : end - at ≡ length (first_line (drop at s)) = omega arith in
    rw size (first_line_takes (drop at s))

pub line_ends_within : (s : List ℕ) (at end : ℕ) → end ≡ at + length (first_line (drop at s)) → at ≤ length s → end ≤ length s
line_ends_within s at end e h = omega (arith, first_line_within (drop at s), length-drop at s)
